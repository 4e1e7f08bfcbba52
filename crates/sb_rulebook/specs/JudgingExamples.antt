-- Computed examples of proofs and scripts so far, of levels that are left between checks, and of lines of which the
-- atom, rule or form is not brought.
use Rattle.std.specs.Prelude.{◌≡◌, ℕ, true, List, [], ◌∷◌, ◌++◌, codes, take, drop, None, refl}
use Rattle.std.specs.List.{repeat}
use Rattle.sb_script.specs.State as state
use Rattle.sb_script.specs.Steps.{leaves, above, all}
use Rattle.sb_rulebook.specs.Refusals.{bad_word, misplaced, unknown_id, repeated, not_normal, wrong_target, holds_empty_word, hint_idle, rule_broken, wrong_verdict}
use Rattle.sb_rulebook.specs.Lines.{said_unsat, said_unknown}
use Rattle.sb_rulebook.specs.Verdicts.{Question}
use Rattle.sb_rulebook.specs.Reading.{LineText, texts_of}
use Rattle.sb_rulebook.specs.LineLaws.{bytes_of}
use Rattle.sb_rulebook.specs.Judging.{Event, leaves_above, leaves_all, asks, Progress, beginning, met, Outcome, accepted, refused, goes_on, outcome_of}
use Rattle.sb_rulebook.specs.JudgingTexts.{takes, along, along_all, judged}
use Rattle.sb_rulebook.specs.Accepted.{events_of}
use Rattle.sb_rulebook.specs.ProofExamples.{computing, question_with, question, proof, judged_lines, changed}

-- A proof so far, along a script so far.

abbrev progress_after : ℕ → Progress
progress_after n = (along beginning (asks question ∷ []) (texts_of (bytes_of (take n proof)))).0

-- what has become before these lines, and behind each of them
abbrev outcomes : Progress → List LineText → List Outcome
outcomes p [] = outcome_of p ∷ []
outcomes p (text ∷ texts) = outcome_of p ∷ outcomes (takes text p) texts

each_line_goes_on : outcomes (met (asks question) beginning) (texts_of (bytes_of (take 17 proof)))
    ≡ repeat 18 (goes_on [] ∷ [])
unfolding computing
each_line_goes_on = refl

before_the_verdict : outcome_of (progress_after 17) ≡ goes_on []
unfolding computing
before_the_verdict = refl

behind_the_verdict : outcome_of (progress_after 18) ≡ goes_on (said_unsat 3 None ∷ [])
unfolding computing
behind_the_verdict = refl

-- no line is due behind the verdict, until the script goes on
a_line_that_is_left : (along beginning (asks question ∷ []) (texts_of (bytes_of proof))).1 ≡ texts_of (codes "end\n")
unfolding computing
a_line_that_is_left = refl

no_line_so_far : outcome_of (along_all beginning [] []) ≡ goes_on []
no_line_so_far = refl

-- where no line is due none is taken, and none is refused
no_line_is_due : takes (codes "end", true) beginning ≡ beginning
unfolding computing
no_line_is_due = refl

no_bad_word_is_due : takes (codes "begin", true) beginning ≡ beginning
unfolding computing
no_bad_word_is_due = refl

-- the places of the assertions on which clauses rest: the last one on both
rests : (progress_after 17).kept.rests ≡ (0 ∷ []) ∷ (1 ∷ []) ∷ [] ∷ (0 ∷ 1 ∷ []) ∷ []
unfolding computing
rests = refl

-- Two checks with the same assertions. Between them clauses are left; regexes, atoms and numbers stay.

left_at_once : events_of (leaves all [] state.start) state.start ≡ leaves_all ∷ []
left_at_once = refl

left_above : events_of (leaves (above 2) [] state.start) state.start ≡ leaves_above 2 ∷ []
left_above = refl

abbrev judged_twice_with : Question → Event → List (List ℕ) → Outcome
judged_twice_with q between lines =
    judged (asks q ∷ between ∷ asks q ∷ []) (bytes_of (take 18 proof ++ (lines ++ codes "end" ∷ [])))

abbrev judged_twice : Event → List (List ℕ) → Outcome
judged_twice = judged_twice_with question

clauses_anew : judged_twice leaves_all
    (codes "c assert 0 +0"
    ∷ codes "c assert 1 +1"
    ∷ codes "c empty -0 -1"
    ∷ codes "c learn : 4 5 6"
    ∷ codes "v unsat 7" ∷ []) ≡ accepted (said_unsat 3 None ∷ said_unsat 7 None ∷ [])
unfolding computing
clauses_anew = refl

a_hint_from_before : judged_twice leaves_all
    (codes "c assert 0 +0"
    ∷ codes "c assert 1 +1"
    ∷ codes "c learn : 4 5 2"
    ∷ codes "v unsat 6" ∷ []) ≡ refused (said_unsat 3 None ∷ []) 21 unknown_id
unfolding computing
a_hint_from_before = refl

a_verdict_by_a_clause_from_before : judged_twice leaves_all (codes "v unsat 3" ∷ [])
    ≡ refused (said_unsat 3 None ∷ []) 19 unknown_id
unfolding computing
a_verdict_by_a_clause_from_before = refl

an_atom_from_before : judged_twice leaves_all (codes "a in v0 : 1" ∷ []) ≡ refused (said_unsat 3 None ∷ []) 19 repeated
unfolding computing
an_atom_from_before = refl

-- clauses of level 0 stay where levels above it are left
clauses_that_stay : judged_twice (leaves_above 0) (codes "v unsat 3" ∷ [])
    ≡ accepted (said_unsat 3 None ∷ said_unsat 3 None ∷ [])
unfolding computing
clauses_that_stay = refl

-- what is learned from a clause of a level that is left is left with it
a_clause_of_a_level_that_is_left : judged_twice_with (question_with 1 0) (leaves_above 0) (codes "v unsat 3" ∷ [])
    ≡ refused (said_unsat 3 None ∷ []) 19 unknown_id
unfolding computing
a_clause_of_a_level_that_is_left = refl

clauses_of_a_level_that_stays : judged_twice_with (question_with 1 0) (leaves_above 1) (codes "v unsat 3" ∷ [])
    ≡ accepted (said_unsat 3 None ∷ said_unsat 3 None ∷ [])
unfolding computing
clauses_of_a_level_that_stays = refl

-- four lines count in the first check, and two in the second
each_check_counts_anew : judged_twice_with (question_with 0 4) leaves_all
    (codes "c assert 0 +0"
    ∷ codes "c assert 1 +1"
    ∷ codes "c empty -0 -1"
    ∷ codes "c learn : 4 5 6"
    ∷ codes "v unsat 7" ∷ []) ≡ accepted (said_unsat 3 None ∷ said_unsat 7 None ∷ [])
unfolding computing
each_check_counts_anew = refl

past_the_limit : judged_twice_with (question_with 0 3) leaves_all [] ≡ refused [] 17 wrong_verdict
unfolding computing
past_the_limit = refl

the_limit_is_reached : judged (asks (question_with 0 3) ∷ [])
    (bytes_of (take 16 proof ++ (codes "v unknown 3" ∷ codes "end" ∷ []))) ≡ accepted (said_unknown 3 ∷ [])
unfolding computing
the_limit_is_reached = refl

the_limit_is_not_reached : judged (asks (question_with 0 4) ∷ [])
    (bytes_of (take 16 proof ++ (codes "v unknown 4" ∷ codes "end" ∷ []))) ≡ refused [] 17 wrong_verdict
unfolding computing
the_limit_is_not_reached = refl

-- A repetition is a regex like others, defined once, and only where it is normal.

-- the proof with more regexes defined, before its atoms
abbrev with_regexes : List (List ℕ) → List (List ℕ)
with_regexes lines = take 8 proof ++ (lines ++ drop 8 proof)

a_repetition : judged_lines (with_regexes (codes "r rep 0 2 3" ∷ [])) ≡ accepted (said_unsat 3 None ∷ [])
unfolding computing
a_repetition = refl

a_repetition_twice : judged_lines (with_regexes (codes "r rep 0 2 3" ∷ codes "r rep 0 2 3" ∷ []))
    ≡ refused [] 10 repeated
unfolding computing
a_repetition_twice = refl

a_repetition_of_no_regex : judged_lines (changed 3 (codes "r rep 1 2 3")) ≡ refused [] 3 unknown_id
unfolding computing
a_repetition_of_no_regex = refl

bounds_out_of_order : judged_lines (changed 3 (codes "r rep 0 3 2")) ≡ refused [] 3 not_normal
unfolding computing
bounds_out_of_order = refl

once : judged_lines (changed 3 (codes "r rep 0 1 1")) ≡ refused [] 3 not_normal
unfolding computing
once = refl

-- Conjunctions and equivalences of literals are atoms like others, and the clauses of their gates are taken.

-- the proof with more lines before its clauses, the last one of a clause
abbrev with_lines : List (List ℕ) → List (List ℕ)
with_lines lines =
    take 13 proof ++ (lines ++ codes "c assert 0 +0"
    ∷ codes "c assert 1 +1"
    ∷ codes "c empty -0 -1"
    ∷ codes "c learn : 1 2 3"
    ∷ codes "v unsat 4"
    ∷ codes "end" ∷ [])

a_conjunction : judged_lines (with_lines (codes "a and +0 -1" ∷ codes "c gate -0 +1 +2" ∷ []))
    ≡ accepted (said_unsat 4 None ∷ [])
unfolding computing
a_conjunction = refl

an_equivalence : judged_lines (with_lines (codes "a iff +0 -1" ∷ codes "c gate -0 -1 -2" ∷ []))
    ≡ accepted (said_unsat 4 None ∷ [])
unfolding computing
an_equivalence = refl

both_signs : judged_lines (changed 14 (codes "c gate +0 -0")) ≡ refused [] 17 hint_idle
unfolding computing
both_signs = refl

another_sign : judged_lines (with_lines (codes "a iff +0 -1" ∷ codes "c gate -0 +1 -2" ∷ []))
    ≡ refused [] 15 rule_broken
unfolding computing
another_sign = refl

a_literal_of_no_atom : judged_lines (with_lines (codes "a and +0 +2" ∷ [])) ≡ refused [] 14 unknown_id
unfolding computing
a_literal_of_no_atom = refl

a_conjunction_twice : judged_lines (with_lines (codes "a and" ∷ codes "a and" ∷ [])) ≡ refused [] 15 repeated
unfolding computing
a_conjunction_twice = refl

a_conjunction_of_one : judged_lines (with_lines (codes "a and +0" ∷ [])) ≡ refused [] 14 not_normal
unfolding computing
a_conjunction_of_one = refl

an_equivalence_out_of_order : judged_lines (with_lines (codes "a iff +1 +0" ∷ [])) ≡ refused [] 14 not_normal
unfolding computing
an_equivalence_out_of_order = refl

a_constant_of_another_sort : judged_lines (changed 9 (codes "a bool 0")) ≡ refused [] 9 unknown_id
unfolding computing
a_constant_of_another_sort = refl

-- A positive literal stands for the complement of its regex: x is in a*, or it is not.

abbrev with_complement : List ℕ → List (List ℕ)
with_complement clause =
    with_lines (codes "r not 1"
    ∷ codes "r and 7 1"
    ∷ codes "x 8 0-60,62-2ffff>6 61-61>8"
    ∷ codes "d 8"
    ∷ clause ∷ [])

a_positive_literal : judged_lines (with_complement (codes "c empty +0 -0")) ≡ accepted (said_unsat 4 None ∷ [])
unfolding computing
a_positive_literal = refl

with_a_word_in_common : judged_lines (with_complement (codes "c empty +0 -1")) ≡ refused [] 18 rule_broken
unfolding computing
with_a_word_in_common = refl

no_membership : judged_lines (with_lines (codes "a and" ∷ codes "c empty +2" ∷ [])) ≡ refused [] 15 rule_broken
unfolding computing
no_membership = refl

a_positive_literal_of_no_atom : judged_lines (changed 16 (codes "c empty +2 -1")) ≡ refused [] 16 unknown_id
unfolding computing
a_positive_literal_of_no_atom = refl

-- Paths, and memberships of several pieces and of none, are regexes and atoms like others.

a_path : judged_lines (with_regexes (codes "r path 0 6" ∷ [])) ≡ accepted (said_unsat 3 None ∷ [])
unfolding computing
a_path = refl

a_path_twice : judged_lines (with_regexes (codes "r path 1 1" ∷ codes "r path 1 1" ∷ [])) ≡ refused [] 10 repeated
unfolding computing
a_path_twice = refl

a_path_from_none : judged_lines (with_regexes (codes "r path 6 0" ∷ [])) ≡ refused [] 9 not_normal
unfolding computing
a_path_from_none = refl

a_path_from_anything : judged_lines (with_regexes (codes "r not 6" ∷ codes "r path 7 7" ∷ []))
    ≡ refused [] 10 not_normal
unfolding computing
a_path_from_anything = refl

a_path_to_no_regex : judged_lines (changed 3 (codes "r path 0 1")) ≡ refused [] 3 unknown_id
unfolding computing
a_path_to_no_regex = refl

-- the path from a* to a* expands to itself and to none, and that from a* to none to itself and to every word
an_expansion_of_a_path : judged_lines
    (with_regexes (codes "r path 1 1" ∷ codes "x 7 0-60,62-2ffff>6 61-61>7" ∷ [])) ≡ accepted (said_unsat 3 None ∷ [])
unfolding computing
an_expansion_of_a_path = refl

not_to_its_first_part : judged_lines
    (with_regexes (codes "r path 1 1" ∷ codes "x 7 0-60,62-2ffff>6 61-61>1" ∷ [])) ≡ refused [] 10 wrong_target
unfolding computing
not_to_its_first_part = refl

onto_its_second_part : judged_lines
    (with_regexes (codes "r path 1 6" ∷ codes "r not 6" ∷ codes "x 7 0-60,62-2ffff>8 61-61>7" ∷ []))
    ≡ accepted (said_unsat 3 None ∷ [])
unfolding computing
onto_its_second_part = refl

-- a path to itself is nullable, and so it is not dead
a_path_is_alive : judged_lines
    (with_regexes (codes "r path 1 1" ∷ codes "x 7 0-60,62-2ffff>6 61-61>7" ∷ codes "d 7" ∷ []))
    ≡ refused [] 11 holds_empty_word
unfolding computing
a_path_is_alive = refl

several_pieces : judged_lines
    (with_lines (codes "a in v0 w61 v0 : 1" ∷ codes "a in : 1" ∷ codes "a in w61 : 1" ∷ codes "c gate +3 -3" ∷ []))
    ≡ accepted (said_unsat 4 None ∷ [])
unfolding computing
several_pieces = refl

several_pieces_twice : judged_lines (with_lines (codes "a in v0 w61 : 1" ∷ codes "a in v0 w61 : 1" ∷ []))
    ≡ refused [] 15 repeated
unfolding computing
several_pieces_twice = refl

two_words_side_by_side : judged_lines (with_lines (codes "a in w61 w62 v0 : 1" ∷ [])) ≡ refused [] 14 not_normal
unfolding computing
two_words_side_by_side = refl

a_word_of_no_character : judged_lines (with_lines (codes "a in v0 w : 1" ∷ [])) ≡ refused [] 14 not_normal
unfolding computing
a_word_of_no_character = refl

a_word_past_the_characters : judged_lines (with_lines (codes "a in w30000 : 1" ∷ [])) ≡ refused [] 14 not_normal
unfolding computing
a_word_past_the_characters = refl

one_piece_of_no_constant : judged_lines (changed 9 (codes "a in v0 w61 v1 : 1")) ≡ refused [] 9 unknown_id
unfolding computing
one_piece_of_no_constant = refl

several_pieces_in_no_regex : judged_lines (changed 9 (codes "a in v0 w61 : 7")) ≡ refused [] 9 unknown_id
unfolding computing
several_pieces_in_no_regex = refl

-- Steps are clauses like others, and are counted.

-- nothing is in a*, and "a" is, since a* is left of a* behind a
abbrev with_steps : List (List ℕ) → List (List ℕ)
with_steps lines = with_lines (codes "a in : 1" ∷ codes "a in w61 : 1" ∷ lines)

an_end : judged_lines (with_steps (codes "c step +2" ∷ [])) ≡ accepted (said_unsat 4 None ∷ [])
unfolding computing
an_end = refl

a_cut : judged_lines (with_steps (codes "c step -2 +3" ∷ [])) ≡ accepted (said_unsat 4 None ∷ [])
unfolding computing
a_cut = refl

a_cut_both_ways : judged_lines (with_steps (codes "c step -2 +3" ∷ codes "c step +2 -3" ∷ [])) ≡ refused [] 21 hint_idle
unfolding computing
a_cut_both_ways = refl

a_negated_end : judged_lines (with_steps (codes "c step -2" ∷ [])) ≡ refused [] 16 rule_broken
unfolding computing
a_negated_end = refl

a_step_again : judged_lines (with_steps (codes "c step +2" ∷ codes "c step +2" ∷ [])) ≡ refused [] 17 repeated
unfolding computing
a_step_again = refl

-- one that a kept clause is a subset of
a_step_that_says_less : judged_lines (with_steps (codes "c step +2" ∷ codes "c step +2 -3" ∷ []))
    ≡ refused [] 17 repeated
unfolding computing
a_step_that_says_less = refl

a_step_of_another_rule : judged_lines (with_steps (codes "c gate +2" ∷ [])) ≡ refused [] 16 rule_broken
unfolding computing
a_step_of_another_rule = refl

a_step_of_no_atom : judged_lines (with_steps (codes "c step +4" ∷ [])) ≡ refused [] 16 unknown_id
unfolding computing
a_step_of_no_atom = refl

a_step_out_of_order : judged_lines (with_steps (codes "c step +3 -2" ∷ [])) ≡ refused [] 16 rule_broken
unfolding computing
a_step_out_of_order = refl

both_signs_are_no_step : judged_lines (changed 14 (codes "c step +0 -0")) ≡ refused [] 14 rule_broken
unfolding computing
both_signs_are_no_step = refl

-- What is not brought is refused by rule, unless a number names nothing.

an_atom : judged_lines (changed 9 (codes "a le l0 5")) ≡ refused [] 9 rule_broken
unfolding computing
an_atom = refl

an_atom_of_no_constant : judged_lines (changed 9 (codes "a le l1 5")) ≡ refused [] 9 unknown_id
unfolding computing
an_atom_of_no_constant = refl

a_rule : judged_lines (changed 14 (codes "c order +0 -0")) ≡ refused [] 14 rule_broken
unfolding computing
a_rule = refl

a_rule_over_no_atom : judged_lines (changed 14 (codes "c linear +2 -2")) ≡ refused [] 14 unknown_id
unfolding computing
a_rule_over_no_atom = refl

another_format : judged_lines (changed 1 (codes "strproof 2")) ≡ refused [] 1 misplaced
unfolding computing
another_format = refl

places : judged_lines (changed 18 (codes "v unsat 3 : 0 1")) ≡ refused [] 18 bad_word
unfolding computing
places = refl
