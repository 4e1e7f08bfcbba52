use Rattle.std.proofs.Common.{refl}
use Rattle.sb_class.specs.Ranges.{Range}
use Rattle.sb_rules.proofs.Gathering.{rest-more, rest-all}
use Rattle.sb_rules.proofs.pieces.add_all.Goals as goal

pub loop-range-preserved : goal.loop-range-preserved
loop-range-preserved c =
    rest-more (λ (r : Range). (r.0, (r.1, c.args.target))) c.args.ranges.now c.loop-range.range-index _
    c.loop-range.pieces.items _ _ _ c.loop-range-test.true refl c.loop-range.invariant c.in_ok-push.ensures.items

pub returns : goal.returns
returns c =
    rest-all (λ (r : Range). (r.0, (r.1, c.args.target))) c.args.ranges.now c.loop-range.range-index
    c.loop-range.pieces.items _ c.loop-range-test.false c.loop-range.invariant
