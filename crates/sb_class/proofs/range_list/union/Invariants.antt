use Rattle.std.proofs.Common.{◌+◌, ◌-◌, ◌≤◌, length, drop}
use Rattle.sb_class.proofs.Merging.{Merging}
use Rattle.sb_class.proofs.range_list.union.Given as goal

abbrev pub invariant-loop-i : goal.invariant-loop-i
invariant-loop-i l =
    (l.i ≤ length l.left) × (l.j ≤ length l.right)
    × Merging l.left l.right l.out.items (drop l.i l.left) (drop l.j l.right)

abbrev pub decreases-loop-i : goal.decreases-loop-i
decreases-loop-i l = (length l.left + length l.right) - (l.i + l.j)
