use Rattle.std.proofs.Common.{◌≡◌, sym, ap, ◌∙◌, option_map}
use Rattle.std.proofs.lemmas.Result.{IfOk-weaker}
use Rattle.sb_rulebook.specs.Reading.{each, characters, hexadecimal_number}
use Rattle.sb_proof.specs.Views.{texts}
use Rattle.sb_proof.proofs.FieldFacts.{characters_split}
use Rattle.sb_proof.proofs.shapes.characters.Goals as goal

pub returns : goal.returns
returns c =
    let fields = texts c.as_slice.result.now in
    IfOk-weaker c.each_character.result
    (λ o. option_map (λ v. v.items) o ≡ each hexadecimal_number fields)
    (λ o. option_map (λ v. v.items) o ≡ characters c.args.text.now)
    (λ o e. e ∙ sym (characters_split c.args.text.now fields (sym c.if-is_empty.ensures)
    (sym c.in_ok-fields.ensures ∙ ap texts (sym c.as_slice.ensures.value))))
    c.each_character.ensures
