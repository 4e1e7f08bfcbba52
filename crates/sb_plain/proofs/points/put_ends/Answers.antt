use Rattle.std.proofs.Common.{take, refl}
use Rattle.sb_class.specs.Ranges.{in_ranges}
use Rattle.sb_plain.proofs.PointFacts.{no_ranges, parts_more, ranges_taken, range_at}
use Rattle.sb_plain.proofs.points.put_ends.Goals as goal

pub loop-range-init : goal.loop-range-init
loop-range-init c = (c.requires.points, λ t h. h, no_ranges c.args.set.now.keys)

pub loop-range-preserved : goal.loop-range-preserved
loop-range-preserved c =
    let e = c.in_ok-put_range.ensures in (
      e.points,
      λ t h. c.loop-range.invariant.1 t (e.kept t h),
      ranges_taken c.put_range.new.set.keys c.args.ranges.now c.loop-range.range-index
          (range_at c.args.ranges.now c.loop-range.range-index) c.loop-range-test.true refl
          (parts_more c.put_range.new.set.keys c.loop-range.set.keys
          (in_ranges (take c.loop-range.range-index c.args.ranges.now)) e.kept c.loop-range.invariant.2) e.put,
    )
