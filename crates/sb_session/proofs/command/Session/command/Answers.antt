use Rattle.sb_session.proofs.Words.{ap, entry_of, err_from_is_err_and, sym, ◌∙◌, SessionState}
use Rattle.sb_session.proofs.CommandLemmas.{fails_by}
use Rattle.sb_session.proofs.command.Session.command.Goals as goal

pub returns-in_err-went-clause-err : goal.returns-in_err-went-clause-err
returns-in_err-went-clause-err g c =
    let p = err_from_is_err_and c.from_residual.result c.from_residual.ensures.1 in
    let e = c.in_err-went.ensures in
    rw (p.1, p.2)
    (fails_by _ (entry_of c.args.entry.now) c.args.self.now c.answer.new.self (g.W.World.outside c.args.world.now)
    (g.W.World.outside c.answer.new.world)
    (ap (λ (s : SessionState). s.ended) (sym c.self.view_is) ∙ c.if-self.false) e.ended e.err e.spent)

pub returns-clause-store : goal.returns-clause-store
returns-clause-store g c = c.in_ok-went.ensures.store
