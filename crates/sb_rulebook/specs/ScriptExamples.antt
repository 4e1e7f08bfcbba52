-- Computed examples of scripts with their proofs.
use Rattle.std.specs.Prelude.{◌≡◌, ℕ, List, [], ◌∷◌, ◌++◌, codes, refl}
use Rattle.sb_reader.specs.Forms.{Form, Symbol, Words}
use Rattle.sb_reader.specs.Entries.{Entry, Command}
use Rattle.sb_script.specs.ReadingExamples.{group, range}
use Rattle.sb_script.specs.State as state
use Rattle.sb_rulebook.specs.JudgingTexts.{judged}
use Rattle.sb_rulebook.specs.Accepted.{events, answer}
use Rattle.sb_rulebook.specs.ProofExamples.{computing}

abbrev command : List Form → Entry
command fs = Command (group fs)

abbrev check_sat : Entry
check_sat = command (Symbol (codes "check-sat") ∷ [])

abbrev exit : Entry
exit = command (Symbol (codes "exit") ∷ [])

abbrev declare_x : Entry
declare_x = command (Symbol (codes "declare-const") ∷ Symbol (codes "x") ∷ Symbol (codes "String") ∷ [])

-- (assert (str.in_re x (re.range "a" "b"))), and of other terms
abbrev assert_member : Form → Entry
assert_member t = command
    (Symbol (codes "assert") ∷ group
    (Symbol (codes "str.in_re") ∷ t ∷ range (Words (codes "a")) (Words (codes "b")) ∷ []) ∷ [])

abbrev answer_to : List Entry → List ℕ → List ℕ
answer_to entries proof = answer (judged (events state.start entries) proof)

an_empty_script : answer_to [] (codes "strproof 1\nend\n") ≡ codes "accepted\n"
unfolding computing
an_empty_script = refl

no_assertion : answer_to (check_sat ∷ exit ∷ check_sat ∷ []) (codes "strproof 1\nv sat\nend\n")
    ≡ codes "check 1: sat\naccepted\n"
unfolding computing
no_assertion = refl

a_value : answer_to (declare_x ∷ assert_member (Symbol (codes "x")) ∷ check_sat ∷ [])
    (codes "strproof 1\nv sat w61\nend\n") ≡ codes "check 1: sat\naccepted\n"
unfolding computing
a_value = refl

another_value : answer_to (declare_x ∷ assert_member (Symbol (codes "x")) ∷ check_sat ∷ [])
    (codes "strproof 1\nv sat w63\nend\n") ≡ codes "refused at line 2: wrong verdict\n"
unfolding computing
another_value = refl

-- (str.++ x x), of which no check is decided
abbrev joined : List Form → Form
joined fs = group (Symbol (codes "str.++") ∷ fs)

two_checks : answer_to
    (declare_x ∷ check_sat ∷ assert_member (joined (Symbol (codes "x") ∷ Symbol (codes "x") ∷ [])) ∷ check_sat ∷ [])
    (codes "strproof 1\nv sat w\nv unsupported\nend\n") ≡ codes "check 1: sat\ncheck 2: unsupported\naccepted\n"
unfolding computing
two_checks = refl

-- Ground terms are decided, by the regex that is left behind a word: "a" is in the range, and (str.++ "c" "") is not.

abbrev with_a_word : List Entry
with_a_word = declare_x ∷ assert_member (Words (codes "a")) ∷ check_sat ∷ []

abbrev without_a_word : List Entry
without_a_word = declare_x ∷ assert_member (joined (Words (codes "c") ∷ Words [] ∷ [])) ∷ check_sat ∷ []

a_word_in_the_range : answer_to with_a_word (codes "strproof 1\nv sat w\nend\n") ≡ codes "check 1: sat\naccepted\n"
unfolding computing
a_word_in_the_range = refl

a_word_in_the_range_by_steps : answer_to with_a_word
    (codes "strproof 1\nr set 61-62\na in w61 : 0\nr eps\na in : 1\n"
    ++ codes "c step +1\nc step +0 -1\nv sat w7a\nend\n")
    ≡ codes "check 1: sat\naccepted\n"
unfolding computing
a_word_in_the_range_by_steps = refl

it_is_no_longer_outside : answer_to with_a_word (codes "strproof 1\nv unsupported\nend\n")
    ≡ codes "refused at line 2: wrong verdict\n"
unfolding computing
it_is_no_longer_outside = refl

abbrev refutation : List ℕ → List ℕ
refutation learned =
    codes "strproof 1\nr set 61-62\na in w63 : 0\nr none\na in : 1\nc assert 0 +0\n"
    ++ (codes "c step -0 +1\nc step -1\n" ++ learned)

a_word_out_of_the_range : answer_to without_a_word (refutation (codes "c learn : 0 1 2\nv unsat 3\nend\n"))
    ≡ codes "check 1: unsat\naccepted\n"
unfolding computing
a_word_out_of_the_range = refl

a_hint_less : answer_to without_a_word (refutation (codes "c learn : 0 1\nv unsat 3\nend\n"))
    ≡ codes "refused at line 9: rule broken\n"
unfolding computing
a_hint_less = refl

no_model_of_a_word : answer_to without_a_word (codes "strproof 1\nv sat w\nend\n")
    ≡ codes "refused at line 2: wrong verdict\n"
unfolding computing
no_model_of_a_word = refl

-- (= (str.++ x "b" y) "aba"): its lines follow, and the check is decided.

abbrev declare_y : Entry
declare_y = command (Symbol (codes "declare-const") ∷ Symbol (codes "y") ∷ Symbol (codes "String") ∷ [])

abbrev joined_constants : List Entry
joined_constants =
    declare_x ∷ declare_y ∷ command
    (Symbol (codes "assert") ∷ group
    (Symbol (codes "=") ∷ joined (Symbol (codes "x") ∷ Words (codes "b") ∷ Symbol (codes "y") ∷ [])
    ∷ Words (codes "aba") ∷ []) ∷ []) ∷ check_sat ∷ []

-- regexes 0: a, 1: b, 2: ba, 3: aba, 4: the words from aba to ba. Atoms 0: x, "b" and y are in aba, 1: x is in regex 4,
-- 2: "b" and y are in ba, 3: y is in a
abbrev of_joined : List ℕ → List ℕ
of_joined lines =
    codes "strproof 1\nr set 61-61\nr set 62-62\nr cat 1 0\nr cat 0 2\na in v0 w62 v1 : 3\nc assert 0 +0\n"
    ++ (codes "r path 3 2\na in v0 : 4\na in w62 v1 : 2\na in v1 : 0\n" ++ lines)

both_steps : answer_to joined_constants
    (of_joined (codes "c step -0 -1 +2\nc step -2 +3\nv sat w61 w61\nend\n"))
    ≡ codes "check 1: sat\naccepted\n"
unfolding computing
both_steps = refl

other_values : answer_to joined_constants (of_joined (codes "v sat w61 w62\nend\n"))
    ≡ codes "refused at line 12: wrong verdict\n"
unfolding computing
other_values = refl

it_is_decided : answer_to joined_constants (of_joined (codes "v unsupported\nend\n"))
    ≡ codes "refused at line 12: wrong verdict\n"
unfolding computing
it_is_decided = refl

another_rest : answer_to joined_constants (of_joined (codes "c step -0 -1 +3\nv sat w61 w61\nend\n"))
    ≡ codes "refused at line 12: rule broken\n"
unfolding computing
another_rest = refl

-- Lines where they may not stand.

no_line : answer_to [] [] ≡ codes "refused at line 1: missing line\n"
unfolding computing
no_line = refl

no_first_line : answer_to [] (codes "end\n") ≡ codes "refused at line 1: misplaced line\n"
unfolding computing
no_first_line = refl

two_first_lines : answer_to (check_sat ∷ []) (codes "strproof 1\nstrproof 1\nv sat\nend\n")
    ≡ codes "refused at line 2: misplaced line\n"
unfolding computing
two_first_lines = refl

an_end_where_a_check_waits : answer_to (check_sat ∷ []) (codes "strproof 1\nend\n")
    ≡ codes "refused at line 2: misplaced line\n"
unfolding computing
an_end_where_a_check_waits = refl

no_verdict : answer_to (check_sat ∷ []) (codes "strproof 1\nr none\n") ≡ codes "refused at line 3: missing line\n"
unfolding computing
no_verdict = refl

a_line_behind_the_last_check : answer_to (check_sat ∷ []) (codes "strproof 1\nv sat\nr none\nend\n")
    ≡ codes "check 1: sat\nrefused at line 3: misplaced line\n"
unfolding computing
a_line_behind_the_last_check = refl

a_line_behind_the_end : answer_to [] (codes "strproof 1\nend\nend\n") ≡ codes "refused at line 3: misplaced line\n"
unfolding computing
a_line_behind_the_end = refl

a_bad_word_behind_the_end : answer_to [] (codes "strproof 1\nend\n\n") ≡ codes "refused at line 3: bad word\n"
unfolding computing
a_bad_word_behind_the_end = refl
