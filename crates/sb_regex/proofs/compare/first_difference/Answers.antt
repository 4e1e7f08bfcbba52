use Rattle.std.proofs.Common.{arith, refl}
use Rattle.sb_regex.proofs.Comparing.{difference_found, difference_next, difference_end}
use Rattle.sb_regex.proofs.compare.first_difference.Goals as goal

pub loop-i-init : goal.loop-i-init
loop-i-init c = refl

pub returns-then-ne : goal.returns-then-ne
returns-then-ne c =
    difference_found c.args.left.now c.args.right.now c.loop-i.i _ _ _ _
    (omega (arith, c.loop-i-test.true, c.min-i-end.ensures))
    (omega (arith, c.loop-i-test.true, c.min-i-end.ensures))
    c.index-left-i.is c.index-right-i.is c.ne.ensures c.if-ne.true c.loop-i.invariant

pub loop-i-preserved : goal.loop-i-preserved
loop-i-preserved c =
    difference_next c.args.left.now c.args.right.now c.loop-i.i _ _ _ _
    (omega (arith, c.loop-i-test.true, c.min-i-end.ensures))
    (omega (arith, c.loop-i-test.true, c.min-i-end.ensures))
    c.index-left-i.is c.index-right-i.is c.ne.ensures c.if-ne.false c.loop-i.invariant

pub returns : goal.returns
returns c =
    difference_end c.args.left.now c.args.right.now c.loop-i.i _ _
    (omega (arith, c.loop-i-test.false, c.loop-i.auto.i-end, c.min-i-end.ensures)) c.cmp.ensures c.loop-i.invariant
