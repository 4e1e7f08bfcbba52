use Rattle.sb_session.proofs.Words.{rules, err_from_is_err_and}
use Rattle.sb_session.proofs.TurnLemmas.{goes, exits, fails, waits}
use Rattle.sb_session.proofs.solve.answer_what_came.Goals as goal

pub returns-in_err-answer-in-Command-clause-err : goal.returns-in_err-answer-in-Command-clause-err
returns-in_err-answer-in-Command-clause-err g c =
    let p = err_from_is_err_and c.from_residual.result c.from_residual.ensures.1 in
    rw p.1
    (fails c.args.next.now c.args.session.now (g.W.World.outside c.args.world.now)
    (g.W.World.outside c.answer.new.world) (search rules) c.in_err-answer-in-Command.ensures.err)

pub returns-in-NotYet-clause-ok : goal.returns-in-NotYet-clause-ok
returns-in-NotYet-clause-ok g c =
    waits c.args.next.now c.args.session.now (g.W.World.outside c.args.world.now) c.in-NotYet.is c.requires

pub returns-in-Go-clause-ok : goal.returns-in-Go-clause-ok
returns-in-Go-clause-ok g c =
    goes c.args.next.now c.in_ok-answer-in-Command.field-0 c.args.session.now c.answer.new.self
    (g.W.World.outside c.args.world.now) (g.W.World.outside c.answer.new.world)
    (search rules) c.in-Go.is c.in_ok-answer-in-Command.ensures.ok

pub returns-in-Exited-clause-ok : goal.returns-in-Exited-clause-ok
returns-in-Exited-clause-ok g c =
    exits c.args.next.now c.in_ok-answer-in-Command.field-0 c.args.session.now c.answer.new.self
    (g.W.World.outside c.args.world.now) (g.W.World.outside c.answer.new.world)
    (search rules) c.in-Exited.is c.in_ok-answer-in-Command.ensures.ok
