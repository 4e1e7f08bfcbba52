use Rattle.std.proofs.Common.{map, sym}
use Rattle.std.specs.String.{string_bytes}
use Rattle.std.proofs.lemmas.Result.{IfOk-from_err, on_ok_weaker}
use Rattle.sb_proof.specs.Fields.{spaced}
use Rattle.sb_proof.proofs.FieldFacts.{ends, joined_behind}
use Rattle.sb_proof.proofs.fields.put_named.Goals as goal

pub returns : goal.returns
returns g c =
    let fields = map g.T.Field.spelled c.args.fields.now in
    on_ok_weaker c.put_fields.result
    (λ e. ends (string_bytes c.args.text.now) c.args.word.now (spaced fields) c.in_ok-push_str.ensures.bytes e
    (sym (joined_behind 32 c.args.word.now fields)))
    c.put_fields.ensures

pub returns-in_err-push_str : goal.returns-in_err-push_str
returns-in_err-push_str g c = IfOk-from_err c.from_residual.result _ c.from_residual.ensures.0
