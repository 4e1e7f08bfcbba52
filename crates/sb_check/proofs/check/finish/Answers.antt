use Rattle.sb_check.proofs.FinishLemmas.{finish_goes, finish_stops}
use Rattle.sb_check.proofs.check.finish.Goals as goal

pub returns-clause-ok : goal.returns-clause-ok
returns-clause-ok g c =
    finish_goes c.finish.result c.args.run.now c.finish.new.lines (g.W.World.outside c.args.world.now)
    (g.W.World.outside c.finish.new.world) c.finish.ensures.ok

pub returns-clause-err : goal.returns-clause-err
returns-clause-err g c =
    finish_stops c.finish.result c.args.run.now c.finish.new.lines (g.W.World.outside c.args.world.now)
    (g.W.World.outside c.finish.new.world) c.finish.ensures.err
