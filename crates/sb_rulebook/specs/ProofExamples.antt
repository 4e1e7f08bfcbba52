-- Computed examples of a whole proof, and of what becomes of it with one line changed.
use Rattle.std.specs.Prelude.{◌≡◌, ℕ, ◌-◌, true, List, [], ◌∷◌, ◌++◌, codes, take, drop, Some, None, refl}
use Rattle.std.specs.Fmt.{digits}
use Rattle.sb_word.specs.Literals.{hex_value, hex_number_from}
use Rattle.sb_class.specs.Ranges.{in_range, in_ranges, rises_from}
use Rattle.sb_lang.specs.Regex.{regexes, parts}
use Rattle.sb_lang.specs.Order.{range_code, code}
use Rattle.sb_lang.specs.RangeSets.{with_range, union, overlap, within_range, inter}
use Rattle.sb_lang.specs.Constructors.{mkset, mkcat, alternatives, conjuncts, ranges_of, is_set, union_of, inter_of, join_sets, meet_of, meet_sets, with_regex, sorted, alt_of, and_of, mkalt, mkand, mknot, mkstar, mkrep, mkpath}
use Rattle.sb_lang.specs.Normal.{word_regex, range_regex, normal}
use Rattle.sb_lang.specs.Derivative.{nullable, nd, nd_along}
use Rattle.sb_lang.specs.Membership.{in_re}
use Rattle.sb_lang.specs.Language.{language}
use Rattle.sb_lang.specs.Languages.{cut, power, some_up_to, iterate, repeat}
use Rattle.sb_lang.specs.NormalForm.{is_normal}
use Rattle.sb_meaning.specs.Terms.{Term, text, constant, word, apply, no_terms, with_term}
use Rattle.sb_meaning.specs.Terms as symbol
use Rattle.sb_rulebook.specs.Refusals.{bad_word, bad_number, unended, misplaced, unknown_id, repeated, not_normal, wrong_target, holds_empty_word, not_closed, hint_idle, rule_broken, wrong_verdict}
use Rattle.sb_rulebook.specs.Lines.{said_unsat}
use Rattle.sb_rulebook.specs.LineLaws.{bytes_of}
use Rattle.sb_rulebook.specs.Verdicts.{Question}
use Rattle.sb_rulebook.specs.Judging.{asks, Outcome, accepted, refused}
use Rattle.sb_rulebook.specs.JudgingTexts.{judged}
use Rattle.sb_rulebook.specs.Accepted.{answer}

-- what the examples compute by
unfoldable pub computing : Unit {0}
unfolding mkset mkcat mkalt mkand mknot mkstar mkrep mkpath alternatives conjuncts parts regexes join_sets meet_sets
    meet_of ranges_of is_set union_of inter_of sorted with_regex alt_of and_of code range_code union with_range inter
    within_range overlap nd nd_along nullable in_ranges in_range rises_from in_re iterate repeat some_up_to power cut
    language is_normal normal word_regex range_regex digits hex_value hex_number_from
computing = tt

-- the String constant of serial 0
abbrev x : Term
x = constant 0 text

abbrev of_word : List ℕ → Term
of_word w = apply symbol.str_to_re (with_term (word w) no_terms)

abbrev member : Term → Term
member R = apply symbol.str_in_re (with_term x (with_term R no_terms))

-- (assert (str.in_re x (re.* (str.to_re "a")))) (assert (str.in_re x (re.+ (str.to_re "b")))) (check-sat), with the
-- second assertion at a level, and a limit
abbrev pub question_with : ℕ → ℕ → Question
question_with level limit = record {
  asked = record {
    live = (Some (member (apply symbol.re_star (with_term (of_word (codes "a")) no_terms))), 0) ∷
        (Some (member (apply symbol.re_plus (with_term (of_word (codes "b")) no_terms))), level) ∷ [];
    sorts = text ∷ [];
    limit = limit;
  };
  constants = record { name = codes "x"; serial = 0; sort = text } ∷ [];
  assumptions = [];
  inside = true;
}

abbrev pub question : Question
question = question_with 0 0

abbrev pub proof : List (List ℕ)
proof =
    codes "strproof 1"
    ∷ codes "r set 61-61"
    ∷ codes "r star 0"
    ∷ codes "r set 62-62"
    ∷ codes "r star 2"
    ∷ codes "r cat 2 3"
    ∷ codes "r and 4 1"
    ∷ codes "r none"
    ∷ codes "a in v0 : 1"
    ∷ codes "a in v0 : 4"
    ∷ codes "x 5 0-2ffff>6"
    ∷ codes "x 6 0-2ffff>6"
    ∷ codes "d 5 6"
    ∷ codes "c assert 0 +0"
    ∷ codes "c assert 1 +1"
    ∷ codes "c empty -0 -1"
    ∷ codes "c learn : 0 1 2"
    ∷ codes "v unsat 3"
    ∷ codes "end" ∷ []

abbrev pub judged_lines : List (List ℕ) → Outcome
judged_lines lines = judged (asks question ∷ []) (bytes_of lines)

-- the proof with another line of this number
abbrev pub changed : ℕ → List ℕ → List (List ℕ)
changed n other = take (n - 1) proof ++ other ∷ drop n proof

-- with a line of this number twice
abbrev doubled : ℕ → List (List ℕ)
doubled n = take n proof ++ drop (n - 1) proof

the_proof : judged_lines proof ≡ accepted (said_unsat 3 None ∷ [])
unfolding computing
the_proof = refl

-- One line is changed: the line that is refused, and why.

another_format : judged_lines (changed 1 (codes "strproof 7")) ≡ refused [] 1 misplaced
unfolding computing
another_format = refl

another_word : judged_lines (changed 2 (codes "q set 61-61")) ≡ refused [] 2 bad_word
unfolding computing
another_word = refl

a_part_that_is_not_defined : judged_lines (changed 3 (codes "r star 1")) ≡ refused [] 3 unknown_id
unfolding computing
a_part_that_is_not_defined = refl

a_regex_twice : judged_lines (changed 5 (codes "r set 62-62")) ≡ refused [] 5 repeated
unfolding computing
a_regex_twice = refl

an_intersection_out_of_order : judged_lines (changed 7 (codes "r and 1 4")) ≡ refused [] 7 not_normal
unfolding computing
an_intersection_out_of_order = refl

classes_with_a_gap : judged_lines (changed 11 (codes "x 5 0-60>6 62-2ffff>6")) ≡ refused [] 11 wrong_target
unfolding computing
classes_with_a_gap = refl

an_expansion_twice : judged_lines (changed 12 (codes "x 5 0-2ffff>6")) ≡ refused [] 12 repeated
unfolding computing
an_expansion_twice = refl

a_leading_zero : judged_lines (changed 12 (codes "x 06 0-2ffff>6")) ≡ refused [] 12 bad_number
unfolding computing
a_leading_zero = refl

a_nullable_regex : judged_lines (changed 13 (codes "d 1")) ≡ refused [] 13 holds_empty_word
unfolding computing
a_nullable_regex = refl

a_regex_that_is_not_expanded : judged_lines (changed 13 (codes "d 5 6 4")) ≡ refused [] 13 not_closed
unfolding computing
a_regex_that_is_not_expanded = refl

the_negation_of_an_assertion : judged_lines (changed 14 (codes "c assert 0 -0")) ≡ refused [] 14 rule_broken
unfolding computing
the_negation_of_an_assertion = refl

a_constant_with_a_word : judged_lines (changed 16 (codes "c empty -0")) ≡ refused [] 16 rule_broken
unfolding computing
a_constant_with_a_word = refl

the_hint_that_is_false_first : judged_lines (changed 17 (codes "c learn : 2 0 1")) ≡ refused [] 17 hint_idle
unfolding computing
the_hint_that_is_false_first = refl

a_hint_behind_the_false_one : judged_lines (changed 17 (codes "c learn : 0 1 2 2")) ≡ refused [] 17 hint_idle
unfolding computing
a_hint_behind_the_false_one = refl

no_hint_that_is_false : judged_lines (changed 17 (codes "c learn : 0 1")) ≡ refused [] 17 rule_broken
unfolding computing
no_hint_that_is_false = refl

hints_in_another_order : judged_lines (changed 17 (codes "c learn : 0 2 1")) ≡ accepted (said_unsat 3 None ∷ [])
unfolding computing
hints_in_another_order = refl

a_clause_twice : judged_lines (doubled 16) ≡ refused [] 17 repeated
unfolding computing
a_clause_twice = refl

a_clause_that_is_not_empty : judged_lines (changed 18 (codes "v unsat 2")) ≡ refused [] 18 wrong_verdict
unfolding computing
a_clause_that_is_not_empty = refl

a_clause_that_is_not_there : judged_lines (changed 18 (codes "v unsat 7")) ≡ refused [] 18 unknown_id
unfolding computing
a_clause_that_is_not_there = refl

a_verdict_twice : judged_lines (doubled 18) ≡ refused (said_unsat 3 None ∷ []) 19 misplaced
unfolding computing
a_verdict_twice = refl

-- the last line without its line feed
no_line_feed : judged (asks question ∷ []) (bytes_of (take 18 proof) ++ codes "end")
    ≡ refused (said_unsat 3 None ∷ []) 19 unended
unfolding computing
no_line_feed = refl

-- What is answered.

abbrev answered : List (List ℕ) → List ℕ
answered lines = answer (judged_lines lines)

answer_of_the_proof : answered proof ≡ codes "check 1: unsat\naccepted\n"
unfolding computing
answer_of_the_proof = refl

a_wrong_target : answered (changed 11 (codes "x 5 0-2ffff>5")) ≡ codes "refused at line 11: wrong target\n"
unfolding computing
a_wrong_target = refl

a_set_that_is_not_closed : answered (changed 13 (codes "d 5")) ≡ codes "refused at line 13: not closed\n"
unfolding computing
a_set_that_is_not_closed = refl

a_word_that_is_no_model : answered (changed 18 (codes "v sat w61")) ≡ codes "refused at line 18: wrong verdict\n"
unfolding computing
a_word_that_is_no_model = refl

no_last_line : answered (take 18 proof) ≡ codes "check 1: unsat\nrefused at line 19: missing line\n"
unfolding computing
no_last_line = refl
