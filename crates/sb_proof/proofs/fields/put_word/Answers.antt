use Rattle.std.proofs.Common.{[], ◌∷◌, sym, ap, ◌∙◌, arith}
use Rattle.std.specs.String.{string_bytes}
use Rattle.std.proofs.lemmas.Result.{IfOk-from_err, on_ok_weaker}
use Rattle.sb_rulebook.specs.Lines.{hexadecimal, word_text}
use Rattle.sb_proof.proofs.FieldFacts.{ends, grows, joined_map}
use Rattle.std.proofs.lemmas.Grind.{common_steps}
use Rattle.sb_proof.proofs.fields.put_word.Goals as goal

pub returns : goal.returns
returns c =
    on_ok_weaker c.put_characters.result
    (λ e. ends _ _ _ (grows (string_bytes c.args.text.now) (119 ∷ []) (hexadecimal c.in-Some.first.now)
    c.in_ok-push_str.ensures.bytes c.in_ok-put_hexadecimal.ensures) e
    (ap (λ bs. 119 ∷ bs) (joined_map 46 hexadecimal (hexadecimal c.in-Some.first.now) c.in-Some.others.now)
    ∙ ap word_text (sym c.in-Some.ensures.cases.0)))
    c.put_characters.ensures

pub returns-in_default : goal.returns-in_default
returns-in_default c = grind (arith, common_steps)

pub returns-in_err-push_str : goal.returns-in_err-push_str
returns-in_err-push_str c = IfOk-from_err c.from_residual.result _ c.from_residual.ensures.0

pub returns-in_err-put_hexadecimal : goal.returns-in_err-put_hexadecimal
returns-in_err-put_hexadecimal c = IfOk-from_err c.from_residual-in_err-put_hexadecimal.result _ c.from_residual-in_err-put_hexadecimal.ensures.0
