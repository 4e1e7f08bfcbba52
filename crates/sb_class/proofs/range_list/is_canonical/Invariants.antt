use Rattle.std.proofs.Common.{◌≡◌, ◌≤◌, drop}
use Rattle.sb_class.specs.Ranges.{rises_from}
use Rattle.sb_class.proofs.range_list.is_canonical.Given as goal

abbrev pub invariant-loop-range : goal.invariant-loop-range
invariant-loop-range l =
    (l.next ≤ 0x30001) × (rises_from l.next (drop l.range-index l.ranges) ≡ rises_from 0 l.ranges)
