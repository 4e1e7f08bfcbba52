use Rattle.sb_stack.proofs.Items.{constants_step, constants_stop, constants_all}
use Rattle.std.proofs.Common.{map}
use Rattle.sb_stack.specs.Values.{asked_in}
use Rattle.sb_stack.proofs.value.all_constants.Goals as goal

pub loop-item-preserved : goal.loop-item-preserved
loop-item-preserved c =
    constants_step c.args.items.now c.loop-item.item-index _ c.in-Constant.constant c.loop-item.found.items
    c.push.new.self.items c.loop-item-test.true c.in-Constant.is c.in_ok-push.ensures.items c.loop-item.invariant

pub returns-in_default : goal.returns-in_default
returns-in_default c =
    constants_stop c.args.items.now c.loop-item.item-index _ (map asked_in c.loop-item.found.items) c.loop-item-test.true
    c.in_default.not-Constant c.loop-item.invariant

pub returns : goal.returns
returns c =
    constants_all c.args.items.now c.loop-item.item-index (map asked_in c.loop-item.found.items) c.loop-item-test.false
    c.loop-item.invariant
