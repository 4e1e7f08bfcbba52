use Rattle.sb_sorts.proofs.Bound.{left_one_more}
use Rattle.sb_sorts.proofs.locals.Locals.leave.Goals as goal

pub loop-place-preserved : goal.loop-place-preserved
loop-place-preserved c =
    left_one_more c.args.count c.loop-place._place c.args.self.now c.loop-place.self c.pop.new.self
    c.loop-place.invariant c.pop.ensures c.loop-place.auto._place
