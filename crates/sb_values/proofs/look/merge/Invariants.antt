use Rattle.std.proofs.Common.{length, ◌-◌, ◌+◌}
use Rattle.sb_values.proofs.look.merge.Given as goal

abbrev pub decreases-loop-left : goal.decreases-loop-left
decreases-loop-left l = (length l.one - l.left) + (length l.other - l.right)
