-- What crates above need of states by levels.
use Rattle.std.proofs.Common.{◌≡◌, ℕ, Bool, true, false, List, map, get_or, ap}
use Rattle.sb_meaning.specs.Terms.{Sort, boolean}
use Rattle.sb_meaning.specs.Values.{Value, Text, Int, Truth}
use Rattle.sb_sorts.specs.Scopes.{names_in}
use Rattle.sb_script.specs.State.{live, Assumption}
use Rattle.sb_rulebook.specs.Verdicts.{is_same_truth, assumption_holds}
use Rattle.sb_stack.specs.Speaking.{is_one_of}
use Rattle.sb_stack.specs.Stacked.{Stacked, state_of, assertion_in, values_at}
use Rattle.sb_stack.proofs.Levels.{live_of_levels}
-- the value of a constant is the one at its serial
pub use Rattle.sb_stack.proofs.Live.{value_there, same_sort}

-- the live assertions are those that are kept
pub live_laid : (s : Stacked) → live (state_of s) ≡ map (assertion_in s.table) s.assertions
live_laid s =
    live_of_levels s.scope.global s.levels (names_in s.table s.scope) (map (assertion_in s.table) s.assertions)

-- an assumption of a constant is true where the truth value at its serial is the one that is assumed
pub assumption_there : (cs : List (ℕ × Sort)) (words : List (List ℕ)) (truths : List Bool) (a : Assumption)
    → is_one_of cs a.0 boolean ≡ true
    → assumption_holds (values_at cs words truths) a ≡ is_same_truth (get_or truths a.0 false) a.1
assumption_there cs words truths a one =
    ap (λ (v : Value). is_same_truth (elim v as (λ _. Bool) [ Text w ↦ false | Int n ↦ false | Truth b ↦ b ]) a.1)
    (value_there cs words truths a.0 boolean one)
