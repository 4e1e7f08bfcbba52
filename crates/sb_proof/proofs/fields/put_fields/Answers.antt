use Rattle.std.proofs.Common.{◌++◌, take, ap, ◌∙◌, arith}
use Rattle.std.specs.String.{string_bytes}
use Rattle.std.proofs.lemmas.List.{take_all}
use Rattle.sb_proof.proofs.FieldFacts.{looped}
use Rattle.std.proofs.lemmas.Grind.{common_steps}
use Rattle.std.proofs.lemmas.Result.{IfOk-from_err}
use Rattle.sb_proof.proofs.fields.put_fields.Goals as goal

pub returns : goal.returns
returns g c =
    let fields = c.args.fields.now in
    c.loop-field.invariant
    ∙ ap (λ bs. string_bytes c.args.text.now ++ bs)
    (looped 32 g.T.Field.spelled (take c.loop-field.field-index fields) fields
    (take_all c.loop-field.field-index fields c.loop-field-test.false))

pub loop-field-preserved : goal.loop-field-preserved
loop-field-preserved g c = grind (arith, common_steps)

pub returns-in_err-put_next : goal.returns-in_err-put_next
returns-in_err-put_next g c = IfOk-from_err c.from_residual.result _ c.from_residual.ensures.0
