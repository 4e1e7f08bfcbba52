use Rattle.std.proofs.Common.{length, ◌-◌, ◌<◌, ◌≤◌}
use Rattle.sb_values.proofs.groups.end_of_group.Given as goal

abbrev pub invariant-loop-end : goal.invariant-loop-end
invariant-loop-end l = (l.begin < l.end) × (l.end ≤ length l.grouped)

abbrev pub decreases-loop-end : goal.decreases-loop-end
decreases-loop-end l = length l.grouped - l.end
