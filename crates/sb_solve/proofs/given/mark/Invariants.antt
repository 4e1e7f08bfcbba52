use Rattle.sb_solve.proofs.Words.{◌≡◌, ◌+◌, ◌-◌, ℕ, length, truth_in}
use Rattle.sb_solve.proofs.given.mark.Given as goal

abbrev pub invariant-loop-truths : goal.invariant-loop-truths
invariant-loop-truths l = (other : ℕ) → truth_in l.truths.items other ≡ truth_in l.fn.truths.items other

abbrev pub decreases-loop-truths : goal.decreases-loop-truths
decreases-loop-truths l = l.place + 1 - length l.truths.items
