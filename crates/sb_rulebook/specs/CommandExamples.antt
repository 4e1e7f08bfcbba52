-- Computed examples of scripts with their proofs, by commands, of those too that are not read yet.
use Rattle.std.specs.Prelude.{◌≡◌, ℕ, List, [], ◌∷◌, ◌++◌, take, codes, Some, None, refl}
use Rattle.sb_reader.specs.Forms.{Form, Symbol, Words}
use Rattle.sb_script.specs.State as state
use Rattle.sb_script.specs.State.{State}
use Rattle.sb_script.specs.Replies as command
use Rattle.sb_script.specs.Replies.{Effect}
use Rattle.sb_script.specs.ReadingExamples.{group}
use Rattle.sb_rulebook.specs.Judging.{Event}
use Rattle.sb_rulebook.specs.JudgingTexts.{judged}
use Rattle.sb_rulebook.specs.Accepted.{events_of, state_behind, answer}
use Rattle.sb_rulebook.specs.LineLaws.{bytes_of}
use Rattle.sb_rulebook.specs.ProofExamples.{computing, proof}

abbrev events_of_commands : State → List Effect → List Event
events_of_commands s [] = []
events_of_commands s (c ∷ cs) =
    let next = c s in
    events_of next s ++ elim (state_behind next s) [ Some new ↦ events_of_commands new cs | None ↦ [] ]

abbrev assert_in : Form → Effect
assert_in R = command.assert (group (Symbol (codes "str.in_re") ∷ Symbol (codes "x") ∷ R ∷ []))

abbrev word_form : List ℕ → Form
word_form w = group (Symbol (codes "str.to_re") ∷ Words w ∷ [])

abbrev two_assertions : List Effect
two_assertions =
    command.declare_constant (codes "x") (Symbol (codes "String"))
    ∷ assert_in (group (Symbol (codes "re.*") ∷ word_form (codes "a") ∷ []))
    ∷ assert_in (group (Symbol (codes "re.+") ∷ word_form (codes "b") ∷ [])) ∷ []

-- the worked proof up to its verdict, and then this verdict of the next check
abbrev answer_twice : List Effect → List ℕ → List ℕ
answer_twice commands verdict =
    answer (judged (events_of_commands state.start commands) (bytes_of (take 18 proof ++ verdict ∷ codes "end" ∷ [])))

-- (check-sat)(check-sat): what was kept for the first check serves the second
a_check_more : answer_twice (two_assertions ++ command.check_sat ∷ command.check_sat ∷ []) (codes "v unsat 3")
    ≡ codes "check 1: unsat\ncheck 2: unsat\naccepted\n"
unfolding computing
a_check_more = refl

-- (check-sat)(reset-assertions)(check-sat), all at level 0: no clause is kept
behind_a_reset : answer_twice (two_assertions ++ command.check_sat ∷ command.reset_assertions ∷ command.check_sat ∷ [])
    (codes "v unsat 3") ≡ codes "check 1: unsat\nrefused at line 19: unknown id\n"
unfolding computing
behind_a_reset = refl

-- (push 1)(check-sat)(pop 1)(check-sat): the assertions of level 0 stay, and with them their clauses
behind_a_pop : answer_twice
    (two_assertions ++ command.push 1 ∷ command.check_sat ∷ command.pop 1 ∷ command.check_sat ∷ []) (codes "v unsat 3")
    ≡ codes "check 1: unsat\ncheck 2: unsat\naccepted\n"
unfolding computing
behind_a_pop = refl

-- (push 1), then the assertions, (check-sat)(pop 1)(check-sat): theirs do not
behind_a_pop_of_them : answer_twice
    (command.push 1 ∷ two_assertions ++ command.check_sat ∷ command.pop 1 ∷ command.check_sat ∷ []) (codes "v unsat 3")
    ≡ codes "check 1: unsat\nrefused at line 19: unknown id\n"
unfolding computing
behind_a_pop_of_them = refl
