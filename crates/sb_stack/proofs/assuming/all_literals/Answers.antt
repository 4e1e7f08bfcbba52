use Rattle.sb_stack.proofs.AssumedFacts.{literals_step, literals_stop, literals_all}
use Rattle.sb_stack.proofs.assuming.all_literals.Goals as goal

pub loop-item-preserved : goal.loop-item-preserved
loop-item-preserved c =
    literals_step c.args.items.now c.loop-item.item-index _ c.in-Literal.serial c.in-Literal.positive
    c.loop-item.found.items c.push.new.self.items c.loop-item-test.true c.in-Literal.is c.in_ok-push.ensures.items
    c.loop-item.invariant

pub returns-in_default : goal.returns-in_default
returns-in_default c =
    literals_stop c.args.items.now c.loop-item.item-index _ c.loop-item.found.items c.loop-item-test.true
    c.in_default.not-Literal c.loop-item.invariant

pub returns : goal.returns
returns c =
    literals_all c.args.items.now c.loop-item.item-index c.loop-item.found.items c.loop-item-test.false
    c.loop-item.invariant
