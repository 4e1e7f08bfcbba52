use Rattle.std.proofs.Common.{take}
use Rattle.sb_class.specs.Ranges.{in_ranges}
use Rattle.sb_plain.specs.CutPoints.{ArePoints}
use Rattle.sb_plain.specs.Making.{Covers, Parts}
use Rattle.sb_plain.proofs.points.put_ends.Given as goal

abbrev pub invariant-loop-range : goal.invariant-loop-range
invariant-loop-range l = ArePoints l.set.keys × Covers l.set.keys l.fn.set.keys
    × Parts l.set.keys (in_ranges (take l.range-index l.ranges))
