use Rattle.std.proofs.lemmas.Result.{IfOk-from_err}
use Rattle.std.proofs.Common.{◌∙◌, sym, ap}
use Rattle.sb_rulebook.specs.Reading as reading
use Rattle.sb_rulebook.specs.Lines as lines
use Rattle.sb_proof.specs.Kinds.{clause_reader}
use Rattle.sb_proof.specs.Views.{texts}
use Rattle.sb_proof.proofs.ReadFacts.{ok_made, err_made, two_made}
use Rattle.sb_proof.proofs.read.read_clause_of.Goals as goal

pub returns-in_err-place-in-Assertion : goal.returns-in_err-place-in-Assertion
returns-in_err-place-in-Assertion c = IfOk-from_err c.from_residual.result _ c.from_residual.ensures.0

pub returns-in-Err : goal.returns-in-Err
returns-in-Err c =
    err_made _ (λ p. lines.assertion_line p.0 p.1) _ _ c.in-Err.fault c.in_ok-place-in-Assertion.ensures c.in-Err.is
    ∙ sym (two_made reading.number reading.literal (λ x y. (x, y)) (λ p. lines.assertion_line p.0 p.1) (texts c.args.fields.now))
    ∙ ap (λ k. clause_reader k (texts c.args.fields.now)) (sym c.in-Assertion.is)

pub returns-in-Ok : goal.returns-in-Ok
returns-in-Ok c =
    ok_made _ (λ p. lines.assertion_line p.0 p.1) _ _ _ c.in_ok-place-in-Assertion.ensures c.in-Ok.is
    ∙ sym (two_made reading.number reading.literal (λ x y. (x, y)) (λ p. lines.assertion_line p.0 p.1) (texts c.args.fields.now))
    ∙ ap (λ k. clause_reader k (texts c.args.fields.now)) (sym c.in-Assertion.is)
