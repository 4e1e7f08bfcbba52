use Rattle.std.proofs.Common.{◌≡◌, ◌++◌, length}
use Rattle.sb_plain.proofs.points.collect.Given as goal

abbrev pub invariant-loop-point : goal.invariant-loop-point
invariant-loop-point l = l.fn.set.keys ≡ l.points.items ++ l.set.keys

abbrev pub decreases-loop-point : goal.decreases-loop-point
decreases-loop-point l = length l.set.keys
