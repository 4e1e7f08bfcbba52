use Rattle.std.proofs.Common.{length, ◌-◌}
use Rattle.sb_plain.specs.Staying.{AreAlike}
use Rattle.sb_plain.proofs.walked.common.Given as goal

abbrev pub invariant-loop-count : goal.invariant-loop-count
invariant-loop-count l = AreAlike l.count l.left l.right

abbrev pub decreases-loop-count : goal.decreases-loop-count
decreases-loop-count l = length l.left - l.count
