use Rattle.std.proofs.Common.{subst, sym}
use Rattle.std.proofs.lemmas.Result.{err_from_is_err_and}
use Rattle.sb_stack.specs.Steps.{entry_of}
use Rattle.sb_check.specs.declared.check.Run.{Run}
use Rattle.sb_check.specs.Standing.{IsStanding}
use Rattle.sb_check.proofs.GoingLemmas.{entry_goes, entry_ends, entry_said}
use Rattle.sb_check.proofs.StopLemmas.{entry_stops, verdict_stops, at_error}
use Rattle.sb_check.proofs.check.check_entry.Goals as goal

pub returns-in_err-command-clause-err : goal.returns-in_err-command-clause-err
returns-in_err-command-clause-err g c =
    let e = err_from_is_err_and c.from_residual.result c.from_residual.ensures.1 in
    at_error c.from_residual.result e.0 _ (entry_of c.args.entry.now) c.args.run.now
    (g.W.World.outside c.args.world.now) (g.W.World.outside c.command.new.world) e.1 e.2
    (entry_stops _ (entry_of c.args.entry.now) c.args.run.now c.command.new.lines (g.W.World.outside c.args.world.now)
    (g.W.World.outside c.command.new.world) c.in_err-command.ensures.err)

pub returns-in_err-write_verdict-in-Said-clause-err :
    goal.returns-in_err-write_verdict-in-Said-clause-err
returns-in_err-write_verdict-in-Said-clause-err g c =
    let e = err_from_is_err_and c.from_residual-in_err-write_verdict-in-Said.result
    c.from_residual-in_err-write_verdict-in-Said.ensures.1 in
    at_error c.from_residual-in_err-write_verdict-in-Said.result e.0 _ (entry_of c.args.entry.now) c.args.run.now
    (g.W.World.outside c.args.world.now) (g.W.World.outside c.write_verdict.new.world) e.1 e.2
    (verdict_stops _ c.in_ok-command.field-0 c.in-Said.said (entry_of c.args.entry.now) c.args.run.now
    c.command.new.self.judge c.command.new.lines (g.W.World.outside c.args.world.now)
    (g.W.World.outside c.command.new.world) (g.W.World.outside c.write_verdict.new.world) c.in-Said.is
    c.in_ok-command.ensures.ok c.in_err-write_verdict-in-Said.ensures.kind
    c.in_err-write_verdict-in-Said.ensures.err)

pub returns-in-Goes-clause-ok : goal.returns-in-Goes-clause-ok
returns-in-Goes-clause-ok g c =
    entry_goes c.in_ok-command.field-0 (entry_of c.args.entry.now) c.args.run.now c.command.new.self c.command.new.lines
    (g.W.World.outside c.args.world.now) (g.W.World.outside c.command.new.world) c.in-Goes.is
    c.in_ok-command.ensures.leads c.in_ok-command.ensures.ok

pub returns-in-Ends-clause-ok : goal.returns-in-Ends-clause-ok
returns-in-Ends-clause-ok g c =
    entry_ends c.in_ok-command.field-0 (entry_of c.args.entry.now) c.args.run.now c.command.new.self c.command.new.lines
    (g.W.World.outside c.args.world.now) (g.W.World.outside c.command.new.world) c.in-Ends.is
    c.in_ok-command.ensures.leads c.in_ok-command.ensures.ok

pub returns-in_ok-write_verdict-in-Said-clause-ok :
    goal.returns-in_ok-write_verdict-in-Said-clause-ok
returns-in_ok-write_verdict-in-Said-clause-ok g c =
    entry_said c.in_ok-command.field-0 c.in-Said.said (entry_of c.args.entry.now) c.args.run.now
    c.write_verdict.new.run c.command.new.self c.command.new.lines (g.W.World.outside c.args.world.now)
    (g.W.World.outside c.command.new.world) (g.W.World.outside c.write_verdict.new.world) c.in-Said.is
    c.in_ok-command.ensures.leads c.in_ok-command.ensures.ok c.in_ok-write_verdict-in-Said.ensures.run
    c.in_ok-write_verdict-in-Said.ensures.ok

pub returns-in_ok-write_verdict-in-Said-clause-standing :
    goal.returns-in_ok-write_verdict-in-Said-clause-standing
returns-in_ok-write_verdict-in-Said-clause-standing g c =
    subst (λ (run : Run). IsStanding run.checker.judge) (sym c.in_ok-write_verdict-in-Said.ensures.run)
    c.in_ok-command.ensures.standing
