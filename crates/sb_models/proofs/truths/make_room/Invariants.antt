use Rattle.std.proofs.Common.{◌≡◌, ℕ, ◌+◌, ◌-◌, length}
use Rattle.sb_models.specs.Knowing.{truth_at}
use Rattle.sb_models.proofs.truths.make_room.Given as goal

abbrev pub invariant-loop-truths : goal.invariant-loop-truths
invariant-loop-truths l = (serial : ℕ) → truth_at l.truths.items serial ≡ truth_at l.fn.truths.items serial

abbrev pub decreases-loop-truths : goal.decreases-loop-truths
decreases-loop-truths l = (l.fn.place + 1) - length l.truths.items
