use Rattle.std.proofs.Common.{arith}
use Rattle.sb_deriv.proofs.Ranging.{ranging_init, fits_here, ranging_step, ranging_done}
use Rattle.sb_deriv.proofs.pieces.of_ranges.Goals as goal

pub loop-range-init : goal.loop-range-init
loop-range-init c = ranging_init c.args.ranges.now _ c.args.within c.args.outside c.requires c.new-pieces.ensures.items

pub fill-requires-clause-ordered : goal.fill-requires-clause-ordered
fill-requires-clause-ordered c =
    (fits_here c.args.ranges.now c.loop-range.range-index _ _ _ _ c.loop-range.invariant c.loop-range-test.true).start

pub overflow_add-end : goal.overflow_add-end
overflow_add-end c =
    let f = fits_here c.args.ranges.now c.loop-range.range-index _ _ _ _ c.loop-range.invariant c.loop-range-test.true
    in
    omega (arith, f.character)

pub loop-range-preserved : goal.loop-range-preserved
loop-range-preserved c =
    ranging_step c.args.ranges.now c.loop-range.range-index c.loop-range.pieces.items c.fill.new.pieces.items
    c.push.new.pieces.items c.loop-range.end c.args.within c.args.outside c.loop-range.invariant
    c.loop-range-test.true
    c.in_ok-fill.ensures.whole c.in_ok-fill.ensures.merged c.in_ok-fill.ensures.value c.in_ok-fill.ensures.targets
    c.in_ok-push.ensures.whole c.in_ok-push.ensures.merged c.in_ok-push.ensures.value c.in_ok-push.ensures.targets

pub returns-clause-value : goal.returns-clause-value
returns-clause-value c =
    (ranging_done c.args.ranges.now c.loop-range.range-index c.loop-range.pieces.items c.fill-2.new.pieces.items
    c.loop-range.end c.args.within c.args.outside c.loop-range.invariant (omega (arith, c.loop-range-test.false))
    c.in_ok-fill-2.ensures.whole c.in_ok-fill-2.ensures.merged c.in_ok-fill-2.ensures.value
    c.in_ok-fill-2.ensures.targets).below

pub returns-clause-targets : goal.returns-clause-targets
returns-clause-targets c =
    (ranging_done c.args.ranges.now c.loop-range.range-index c.loop-range.pieces.items c.fill-2.new.pieces.items
    c.loop-range.end c.args.within c.args.outside c.loop-range.invariant (omega (arith, c.loop-range-test.false))
    c.in_ok-fill-2.ensures.whole c.in_ok-fill-2.ensures.merged c.in_ok-fill-2.ensures.value
    c.in_ok-fill-2.ensures.targets).targets
