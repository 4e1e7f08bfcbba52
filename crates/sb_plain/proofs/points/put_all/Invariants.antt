use Rattle.std.proofs.Common.{take}
use Rattle.sb_plain.specs.CutPoints.{ArePoints}
use Rattle.sb_plain.specs.Making.{Covers}
use Rattle.sb_plain.proofs.points.put_all.Given as goal

abbrev pub invariant-loop-point : goal.invariant-loop-point
invariant-loop-point l = ArePoints l.set.keys × Covers l.set.keys l.fn.set.keys
    × Covers l.set.keys (take l.point-index l.points)
