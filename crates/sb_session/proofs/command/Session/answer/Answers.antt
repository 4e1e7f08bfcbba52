use Rattle.sb_session.proofs.Words.{ap, entry_of, err_from_is_err_and, is_proved, proof_of, session_of, subst, sym, ◌∙◌, SessionState}
use Rattle.sb_store.specs.Stores.{KnowsMore}
use Rattle.sb_session.proofs.CheckLemmas.{is_kind}
use Rattle.sb_session.proofs.CommandLemmas.{answers_regardless}
use Rattle.sb_session.proofs.command.Session.answer.Goals as goal

pub returns-clause-ok : goal.returns-clause-ok
returns-clause-ok g c = rw (← c.self.view_is) (record {
  went_is = c.in_ok-went.ensures.ok.0;
  had_not_ended = ap (λ (s : SessionState). s.ended) c.self.view_is ∙ c.requires.goes_on;
  ends = c.exits-self-inside.ensures;
  same_kind = is_kind c.self.inside.proved c.answer_entry.new.prover
      ∙ sym (is_kind c.self.inside.proved c.self.inside.prover);
  answers = answers_regardless (entry_of c.args.entry.now)
      (session_of c.self.inside.stack c.self.inside.decider (proof_of c.self.inside.proved c.self.inside.prover))
      (session_of c.answer_entry.new.stack c.answer_entry.new.decider
      (proof_of c.self.inside.proved c.answer_entry.new.prover)) _ _
      (g.W.World.outside c.args.world.now) (g.W.World.outside c.answer_entry.new.world) c.in_ok-went.ensures.ok.1;
})

pub returns-in_err-went-clause-spent : goal.returns-in_err-went-clause-spent
returns-in_err-went-clause-spent g c =
    let p = err_from_is_err_and c.from_residual.result c.from_residual.ensures.1 in
    rw p.1
    (λ h. ap (λ (s : SessionState). is_proved s) (sym c.self.view_is)
    ∙ is_kind c.self.inside.proved c.self.inside.prover ∙ c.in_err-went.ensures.spent (sym p.2 ∙ h))

pub returns-clause-store : goal.returns-clause-store
returns-clause-store g c =
    subst (λ (s : SessionState). KnowsMore s.store c.answer_entry.new.decider.store) c.self.view_is
    c.in_ok-went.ensures.store
