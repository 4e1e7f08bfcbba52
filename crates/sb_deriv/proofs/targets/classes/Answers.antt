use Rattle.sb_deriv.proofs.Turns.{taken_one}
use Rattle.sb_deriv.proofs.targets.classes.Goals as goal

pub loop-target-preserved : goal.loop-target-preserved
loop-target-preserved c =
    taken_one c.args.gathered.now c.loop-target.targets.items c.push.new.self.items c.loop-target.target-index
    c.target-item.result c.in_ok-target.field-0 c.loop-target-test.true c.target-item.is c.in_ok-target.ensures
    c.loop-target.invariant c.in_ok-push.ensures.items
