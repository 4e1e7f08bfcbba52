use Rattle.std.proofs.Common.{rules}
use Rattle.std.proofs.lemmas.Result.{err_from_is_err_and}
use Rattle.sb_stack.specs.Steps.{IsEntry}
use Rattle.sb_check.proofs.TurnLemmas.{finds_end, finds_limit, finds_none, stops_by, turn_goes, turn_stops}
use Rattle.sb_check.proofs.check.turn.Goals as goal

pub returns-in_err-next-clause-err : goal.returns-in_err-next-clause-err
returns-in_err-next-clause-err g c =
    let e = err_from_is_err_and c.from_residual.result c.from_residual.ensures.1 in
    stops_by c.from_residual.result e.0 _ c.args.run.now (g.W.World.outside c.args.world.now)
    (g.W.World.outside c.advance.new.world) e.1 e.2
    (finds_none _ c.args.run.now (g.W.World.outside c.args.world.now) (g.W.World.outside c.advance.new.world)
    c.in_err-next.ensures.err)

pub returns-in-NotYet-clause-err : goal.returns-in-NotYet-clause-err
returns-in-NotYet-clause-err g c =
    finds_limit c.in_ok-next.next c.args.run.now c.advance.new.entries (g.W.World.outside c.args.world.now)
    (g.W.World.outside c.advance.new.world) c.in-NotYet.is c.in_ok-next.ensures.ok

pub returns-in-Ended-clause-ok : goal.returns-in-Ended-clause-ok
returns-in-Ended-clause-ok g c =
    finds_end c.in_ok-next.next c.in-Ended.field-0 c.args.run.now c.advance.new.entries
    (g.W.World.outside c.args.world.now) (g.W.World.outside c.advance.new.world) c.in-Ended.is c.in_ok-next.ensures.ok

pub returns-clause-ok : goal.returns-clause-ok
returns-clause-ok g c =
    let is : IsEntry c.in_ok-next.next = search rules in
    turn_goes c.check_entry.result c.in_ok-next.next c.args.run.now c.check_entry.new.run c.advance.new.entries
    (g.W.World.outside c.args.world.now) (g.W.World.outside c.advance.new.world)
    (g.W.World.outside c.check_entry.new.world) is c.in_ok-next.ensures.ok c.check_entry.ensures.ok

pub returns-clause-err : goal.returns-clause-err
returns-clause-err g c =
    let is : IsEntry c.in_ok-next.next = search rules in
    turn_stops c.check_entry.result c.in_ok-next.next c.args.run.now c.advance.new.entries
    (g.W.World.outside c.args.world.now) (g.W.World.outside c.advance.new.world)
    (g.W.World.outside c.check_entry.new.world) is c.in_ok-next.ensures.ok c.check_entry.ensures.err
