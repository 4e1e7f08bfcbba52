use Rattle.std.proofs.Common.{◌≡◌, ◌≤◌, length, drop}
use Rattle.sb_fragment.specs.Measured.{total}
use Rattle.sb_fragment.proofs.measure.total_of.Given as goal

abbrev pub invariant-loop-left : goal.invariant-loop-left
invariant-loop-left l = (l.left ≤ length l.fn.arguments) × (l.all ≡ total l.fn.measures (drop l.left l.fn.arguments))

abbrev pub decreases-loop-left : goal.decreases-loop-left
decreases-loop-left l = l.left
