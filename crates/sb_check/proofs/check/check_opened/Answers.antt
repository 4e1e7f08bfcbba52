use Rattle.std.proofs.Common.{refl}
use Rattle.sb_check.specs.declared.check.Run.{Run}
use Rattle.sb_check.proofs.Opening.{goes_at_first, concluded}
use Rattle.sb_check.proofs.check.check_opened.Goals as goal

pub returns-clause-run : goal.returns-clause-run
returns-clause-run g c script proof left =
    let run : Run = record {
      alloc = c.args.alloc;
      entries = c.new.result;
      lines = c.new-2.result;
      checker = c.new-3.result;
      next_check = 1;
    } in
    let old = g.W.World.outside c.args.world.now in
    c.conclude.ensures.run c.args.limit script proof old
    (concluded c.check_script-outcome.result run c.args.limit script proof old old
    (g.W.World.outside c.check_script-outcome.new.world) c.check_script-outcome.ensures.ok
    c.check_script-outcome.ensures.err
    (goes_at_first run c.args.limit script proof old c.new.ensures c.new-2.ensures c.new-3.ensures.at
    c.new-3.ensures.state refl left))

pub returns-clause-faults : goal.returns-clause-faults
returns-clause-faults g c =
    c.conclude.ensures.faults (g.W.World.faults c.args.world.now) c.check_script-outcome.ensures.faults
