use Rattle.sb_check.specs.Running.{asked_for}
use Rattle.sb_check.proofs.Opening.{run_opened}
use Rattle.sb_check.proofs.check.check_files.Goals as goal

pub returns-in-Ok-clause-run : goal.returns-in-Ok-clause-run
returns-in-Ok-clause-run g c =
    run_opened c.check_opened.result (asked_for c.args.script.now c.args.proof.now c.args.limit)
    (g.W.World.outside c.args.world.now) (g.W.World.outside c.open_files.new.world)
    (g.W.World.outside c.check_opened.new.world) c.check_opened.ensures.opened c.in-Ok.ensures.ok
    c.check_opened.ensures.run
