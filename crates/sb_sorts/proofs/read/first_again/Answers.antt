use Rattle.sb_sorts.proofs.Binds.{again_start, again_step, again_stop, again_end}
use Rattle.sb_sorts.proofs.read.first_again.Goals as goal

pub loop-one-init : goal.loop-one-init
loop-one-init c = again_start c.args.bound.now c.new-seen.result.keys c.new-seen.ensures.empty

pub loop-one-preserved : goal.loop-one-preserved
loop-one-preserved c =
    again_step c.args.bound.now c.loop-one.one-index c.one-item.result c.loop-one.seen.keys c.in_ok-is_new.field-0
    c.loop-one-test.true c.one-item.is c.in_ok-is_new.ensures.new c.loop-one.invariant c.is_new.new.seen.keys
    c.if-not-branch.false (c.in_ok-is_new.ensures.put c.if-not-branch.false)

pub returns-then-not-branch : goal.returns-then-not-branch
returns-then-not-branch c =
    again_stop c.args.bound.now c.loop-one.one-index c.one-item.result c.loop-one.seen.keys c.in_ok-is_new.field-0
    c.loop-one-test.true c.one-item.is c.in_ok-is_new.ensures.new c.loop-one.invariant c.if-not-branch.true

pub returns : goal.returns
returns c =
    again_end c.args.bound.now c.loop-one.one-index c.loop-one.seen.keys c.loop-one-test.false c.loop-one.invariant
