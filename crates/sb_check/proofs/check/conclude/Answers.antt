use Rattle.std.proofs.Common.{subst, sym}
use Rattle.sb_check.specs.Running.{RunOf}
use Rattle.sb_check.specs.Sofar.{Concludes}
use Rattle.sb_check.proofs.Written.{accepted_written}
use Rattle.sb_check.proofs.check.conclude.Goals as goal

pub returns-in-Ok-clause-run : goal.returns-in-Ok-clause-run
returns-in-Ok-clause-run g c limit script proof old has =
    subst (λ s. RunOf s limit script proof old (g.W.World.outside c.write_all.new.world)) (sym c.written.ensures)
    (accepted_written c.write_all.result limit script proof old (g.W.World.outside c.args.world.now)
    (g.W.World.outside c.write_all.new.world) (c.write_all.ensures.ok, c.write_all.ensures.err)
    (subst (λ r. Concludes r limit script proof old (g.W.World.outside c.args.world.now)) c.in-Ok.is has))
