use Rattle.std.proofs.lemmas.Result.{IfOk-from_err}
use Rattle.std.proofs.Common.{◌∙◌, sym, ap}
use Rattle.sb_rulebook.specs.Reading as reading
use Rattle.sb_rulebook.specs.Lines as lines
use Rattle.sb_proof.specs.Kinds.{verdict_reader}
use Rattle.sb_proof.specs.Views.{texts}
use Rattle.sb_proof.proofs.ReadFacts.{ok_made, err_made, any_made, one_made}
use Rattle.sb_proof.proofs.read.read_said_of.Goals as goal

pub returns-in_err-limit-in-Unknown : goal.returns-in_err-limit-in-Unknown
returns-in_err-limit-in-Unknown c = IfOk-from_err c.from_residual-in_err-limit-in-Unknown.result _ c.from_residual-in_err-limit-in-Unknown.ensures.0

pub returns-in_err-values-in-Sat : goal.returns-in_err-values-in-Sat
returns-in_err-values-in-Sat c = IfOk-from_err c.from_residual.result _ c.from_residual.ensures.0

pub returns-in-Err : goal.returns-in-Err
returns-in-Err c =
    err_made _ lines.said_sat _ _ c.in-Err.fault c.in_ok-values-in-Sat.ensures c.in-Err.is
    ∙ sym (any_made reading.value (λ xs. xs) lines.said_sat (texts c.args.fields.now))
    ∙ ap (λ k. verdict_reader k (texts c.args.fields.now)) (sym c.in-Sat.is)

pub returns-in-Err-2 : goal.returns-in-Err-2
returns-in-Err-2 c =
    err_made _ lines.said_unknown _ _ c.in-Err-2.fault c.in_ok-limit-in-Unknown.ensures c.in-Err-2.is
    ∙ sym (one_made reading.number (λ x. x) lines.said_unknown (texts c.args.fields.now))
    ∙ ap (λ k. verdict_reader k (texts c.args.fields.now)) (sym c.in-Unknown.is)

pub returns-in-Ok : goal.returns-in-Ok
returns-in-Ok c =
    ok_made _ lines.said_sat _ _ _ c.in_ok-values-in-Sat.ensures c.in-Ok.is
    ∙ sym (any_made reading.value (λ xs. xs) lines.said_sat (texts c.args.fields.now))
    ∙ ap (λ k. verdict_reader k (texts c.args.fields.now)) (sym c.in-Sat.is)

pub returns-in-Ok-2 : goal.returns-in-Ok-2
returns-in-Ok-2 c =
    ok_made _ lines.said_unknown _ _ _ c.in_ok-limit-in-Unknown.ensures c.in-Ok-2.is
    ∙ sym (one_made reading.number (λ x. x) lines.said_unknown (texts c.args.fields.now))
    ∙ ap (λ k. verdict_reader k (texts c.args.fields.now)) (sym c.in-Unknown.is)
