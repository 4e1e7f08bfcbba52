use Rattle.sb_check.proofs.ScriptLemmas.{script_goes, script_stops}
use Rattle.sb_check.proofs.check.check_script.Goals as goal

pub returns-clause-ok : goal.returns-clause-ok
returns-clause-ok g c =
    script_goes c.finish.result c.in_ok-turn.field-0 c.args.run.now c.loop.run c.turn.new.run
    (g.W.World.outside c.args.world.now) (g.W.World.outside c.loop.world) (g.W.World.outside c.turn.new.world)
    (g.W.World.outside c.finish.new.world) c.if-branch.false c.loop.invariant.goes_on c.in_ok-turn.ensures.ok
    c.finish.ensures.ok

pub returns-clause-err : goal.returns-clause-err
returns-clause-err g c =
    script_stops c.finish.result c.in_ok-turn.field-0 c.args.run.now c.loop.run c.turn.new.run
    (g.W.World.outside c.args.world.now) (g.W.World.outside c.loop.world) (g.W.World.outside c.turn.new.world)
    (g.W.World.outside c.finish.new.world) c.if-branch.false c.loop.invariant.goes_on c.in_ok-turn.ensures.ok
    c.finish.ensures.err
