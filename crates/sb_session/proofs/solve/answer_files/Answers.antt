use Rattle.std.proofs.Common.{◌∙◌, refl, ap, inl, inr}
use Rattle.sb_session.proofs.Words.{asked_for, created, err_from_is_err_and, is_proved, on_err_weaker, option_copied}
use Rattle.sb_facts.proofs.CallerLemmas.{some_mapped}
use Rattle.sb_session.proofs.ScriptLemmas.{opened_cut}
use Rattle.sb_session.proofs.SolveLemmas.{run_from}
use Rattle.sb_session.proofs.solve.answer_files.Goals as goal

pub returns-clause-ok : goal.returns-clause-ok
returns-clause-ok g c =
    run_from (asked_for (option_copied c.args.script) (option_copied c.args.proof) c.args.limit)
    (is_proved c.new-session.result) c.answer_script-outcome.result (g.W.World.outside c.args.world.now)
    (g.W.World.outside c.create_proof.new.world)
    (g.W.World.outside c.answer_script-outcome.new.world) c.args.limit (g.W.World.faults c.args.world.now)
    (g.W.World.faults c.create_proof.new.world) (g.W.World.faults c.answer_script-outcome.new.world) refl
    (c.new-session.ensures.kind ∙ (c.is_some.ensures ∙ some_mapped _ c.args.proof))
    (c.in_ok-create_proof.ensures.created
    ∙ ap (created (option_copied c.args.proof)) c.in_ok-open_input.ensures.opened)
    (c.in_ok-create_proof.ensures.counts ∙ c.in_ok-open_input.ensures.counts) c.answer_script-outcome.ensures.ok
    c.answer_script-outcome.ensures.counts

pub returns-clause-err : goal.returns-clause-err
returns-clause-err g c =
    on_err_weaker c.answer_script-outcome.result
    (λ cut. cut (asked_for (option_copied c.args.script) (option_copied c.args.proof) c.args.limit)
    (g.W.World.outside c.args.world.now) refl
    (c.new-session.ensures.kind ∙ (c.is_some.ensures ∙ some_mapped _ c.args.proof))
    (c.in_ok-create_proof.ensures.created
    ∙ ap (created (option_copied c.args.proof)) c.in_ok-open_input.ensures.opened))
    c.answer_script-outcome.ensures.err

pub returns-in_err-create_proof-clause-err : goal.returns-in_err-create_proof-clause-err
returns-in_err-create_proof-clause-err g c =
    let x = c.from_residual-in_err-create_proof in
    let p = err_from_is_err_and x.result x.ensures.1 in
    rw p.1 (inr (inl (c.in_err-create_proof.ensures.err ∙ c.in_ok-open_input.ensures.opened)))

pub returns-in_err-buffer-clause-err : goal.returns-in_err-buffer-clause-err
returns-in_err-buffer-clause-err g c =
    let x = c.from_residual-in_err-buffer in
    let p = err_from_is_err_and x.result x.ensures.1 in
    rw p.1
    (opened_cut (asked_for (option_copied c.args.script) (option_copied c.args.proof) c.args.limit)
    (g.W.World.outside c.args.world.now) (g.W.World.outside c.create_proof.new.world)
    (c.in_ok-create_proof.ensures.created
    ∙ ap (created (option_copied c.args.proof)) c.in_ok-open_input.ensures.opened))
