use Rattle.std.proofs.Common.{◌++◌, refl, ap, ◌∙◌, arith}
use Rattle.std.proofs.lemmas.Result.{IfOk-from_err, on_ok_weaker}
use Rattle.std.specs.String.{string_bytes}
use Rattle.sb_proof.proofs.FieldFacts.{last_piece}
use Rattle.sb_proof.proofs.HexadecimalFacts.{one-put, two-put}
use Rattle.sb_proof.proofs.fields.put_two_digits.Goals as goal
use Rattle.sb_proof.proofs.fields.put_two_digits.Goals.{then-n-ge16+in_ok-push_str, else-n-ge16}

pub returns : goal.returns
returns c = elim c.if-n-ge16.branch [
  | then-n-ge16+in_ok-push_str w ↦
      on_ok_weaker c.push_str-2.result
      (λ e. two-put c.args.n _ _ _ _ _ c.requires (λ h. omega (arith, h, w.if-n-ge16)) w.digit_text.ensures
      c.digit_text-2.ensures (ap string_bytes w.text-is ∙ w.in_ok-push_str.ensures.bytes) e)
      (last_piece c.push_str-2.result (string_bytes c.if-n-ge16.text) c.digit_text-2.result.now
      c.push_str-2.ensures.bytes refl)
  | else-n-ge16 w ↦
      on_ok_weaker c.push_str-2.result
      (λ e. one-put c.args.n _ _ _ (omega (arith, w.if-n-ge16)) c.digit_text-2.ensures
      (e ∙ ap (λ t. string_bytes t ++ c.digit_text-2.result.now) w.text-is))
      (last_piece c.push_str-2.result (string_bytes c.if-n-ge16.text) c.digit_text-2.result.now
      c.push_str-2.ensures.bytes refl)
]

pub returns-in_err-push_str : goal.returns-in_err-push_str
returns-in_err-push_str c = IfOk-from_err c.from_residual.result _ c.from_residual.ensures.0
