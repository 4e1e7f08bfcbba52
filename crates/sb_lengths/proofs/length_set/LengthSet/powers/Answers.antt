use Rattle.std.proofs.Common.{◌≡◌, min, arith}
use Rattle.sb_lengths.proofs.Powers.{powers_begun, powers_added, powers_done}
use Rattle.sb_lengths.proofs.length_set.LengthSet.powers.Goals as goal

pub loop-count-init : goal.loop-count-init
loop-count-init c = powers_begun c.args.self c.times-these.result c.min-first.result c.times-these.ensures

pub loop-count-preserved : goal.loop-count-preserved
loop-count-preserved c =
    powers_added c.args.self c.loop-count.sums c.loop-count.these c.sums-these.result c.union-sums.result
    c.min-first.result c.loop-count._count c.sums-these.ensures c.union-sums.ensures c.loop-count.invariant

pub returns : goal.returns
returns c =
    powers_done c.cut_is_some_cut.ensures c.repetition_is_some_power.ensures c.args.self c.loop-count.sums
    c.loop-count.these c.args.least c.args.most c.if-most-least.false
    (rw (← c.min-first.ensures, ← last) c.loop-count.invariant)
  where
    last : c.loop-count._count ≡ min c.args.most 64
    last = omega (arith, c.loop-count-test.false, c.loop-count.auto._count-end, c.min-last.ensures)
