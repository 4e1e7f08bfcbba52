use Rattle.std.proofs.Common.{◌∙◌, sym, refl, arith}
use Rattle.sb_plain.proofs.PointFacts.{range_at}
use Rattle.sb_plain.proofs.Shapes.{ranges_found, ranges_next, ranges_done}
use Rattle.sb_plain.proofs.shape.contains.Goals as goal

pub returns-then-lies_in : goal.returns-then-lies_in
returns-then-lies_in c =
    ranges_found c.args.ranges.now c.loop-range.range-index c.args.c
    (range_at c.args.ranges.now c.loop-range.range-index) c.loop-range-test.true refl c.loop-range.invariant
    (sym c.lies_in.ensures ∙ c.if-lies_in.true)

pub loop-range-preserved : goal.loop-range-preserved
loop-range-preserved c =
    ranges_next c.args.ranges.now c.loop-range.range-index c.args.c
    (range_at c.args.ranges.now c.loop-range.range-index) c.loop-range-test.true refl c.loop-range.invariant
    (sym c.lies_in.ensures ∙ c.if-lies_in.false)

pub returns : goal.returns
returns c = ranges_done c.args.ranges.now c.loop-range.range-index c.args.c (omega (arith, c.loop-range-test.false))
    c.loop-range.invariant
