use Rattle.sb_session.proofs.Words.{Bool, subst, Cut, err_from_is_err_and, is_proved}
use Rattle.sb_session.proofs.solve.answer_entries.Goals as goal

pub returns-in-Some-clause-ok : goal.returns-in-Some-clause-ok
returns-in-Some-clause-ok g c opened bytes sofar =
    rw c.in-Some.is at (c.in_ok-pause.ensures.ok opened bytes (c.loop-pause.invariant.sofar opened bytes sofar))

pub returns-in_err-pause-clause-err : goal.returns-in_err-pause-clause-err
returns-in_err-pause-clause-err g c =
    let p = err_from_is_err_and c.from_residual.result c.from_residual.ensures.1 in
    rw p.1
    (λ opened bytes sofar.
    subst (λ (ended : Bool). Cut (is_proved c.args.session.now) opened bytes ended
    (g.W.World.outside c.answer_next.new.world)) c.loop-pause.invariant.finished
    (subst (λ (proved : Bool). Cut proved opened bytes c.loop-pause.feed.1
    (g.W.World.outside c.answer_next.new.world)) c.loop-pause.invariant.kind
    (c.in_err-pause.ensures.err opened bytes (c.loop-pause.invariant.sofar opened bytes sofar))))
