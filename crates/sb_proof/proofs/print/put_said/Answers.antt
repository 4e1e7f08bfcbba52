use Rattle.std.proofs.Common.{◌∷◌, ◌++◌, map, codes, sym, ap, ◌∙◌}
use Rattle.std.specs.List.{join_with_byte}
use Rattle.std.specs.String.{string_bytes}
use Rattle.std.proofs.lemmas.Result.{on_ok_weaker}
use Rattle.sb_rulebook.specs.Lines.{value_text, verdict_line, text_of}
use Rattle.sb_proof.specs.Lines.{value_in, said_in}
use Rattle.sb_proof.proofs.FieldFacts.{last_piece, two_words, viewed}
use Rattle.sb_proof.proofs.print.put_said.Goals as goal

pub returns-in-Sat : goal.returns-in-Sat
returns-in-Sat c =
    let slice = c.as_slice.result.now in
    on_ok_weaker c.put_named.result
    (λ e. e ∙ ap (λ bs. string_bytes c.args.text.now ++ bs)
    (two_words 32 (codes "v") (codes "sat") (map (λ v. value_text (value_in v)) slice)
    ∙ ap (λ fs. join_with_byte 32 (codes "v" ∷ codes "sat" ∷ fs))
    (viewed value_text value_in slice c.in-Sat.values.items c.as_slice.ensures.value)
    ∙ ap (λ s. text_of (verdict_line (said_in s))) (sym c.in-Sat.is)))
    c.put_named.ensures

pub returns-in-Unsupported : goal.returns-in-Unsupported
returns-in-Unsupported c =
    last_piece c.push_str.result _ _ c.push_str.ensures.bytes
    (ap (λ s. text_of (verdict_line (said_in s))) (sym c.in-Unsupported.is))
