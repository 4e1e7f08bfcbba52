use Rattle.std.proofs.Common.{◌++◌, [], ◌∷◌, map, codes, decimal, sym, ap, ◌∙◌}
use Rattle.std.specs.List.{join_with_byte, flat_map}
use Rattle.std.specs.Fmt.{signed_decimal}
use Rattle.std.specs.String.{string_bytes}
use Rattle.std.proofs.lemmas.Result.{IfOk-from_err, on_ok_weaker}
use Rattle.sb_rulebook.specs.Lines.{literal_text, piece_text, variable_text, summand_fields, atom_line, text_of}
use Rattle.sb_proof.specs.Fields.{spaced}
use Rattle.sb_proof.specs.Lines.{piece_in, summand_in, variable_in, atom_in}
use Rattle.sb_proof.proofs.FieldFacts.{around, ends, grows, joined_behind, listed, looped_summands, summand_text, viewed}
use Rattle.sb_proof.proofs.print.put_atom.Goals as goal

pub returns-in_ok-put_named-in-In : goal.returns-in_ok-put_named-in-In
returns-in_ok-put_named-in-In c =
    let slice = c.as_slice.result.now in
    let regex = decimal c.in-In.regex ∷ [] in
    let pieces = map (λ p. piece_text (piece_in p)) slice in
    on_ok_weaker c.put_named-in-In-2.result
    (λ e. ends (string_bytes c.args.text.now) (join_with_byte 32 (codes "a in" ∷ pieces))
    (join_with_byte 32 (codes " :" ∷ regex)) c.in_ok-put_named-in-In.ensures e
    (around (codes "a") (codes "in") pieces regex
    ∙ ap (λ fs. join_with_byte 32 (codes "a" ∷ codes "in" ∷ (fs ++ codes ":" ∷ regex)))
    (viewed piece_text piece_in slice c.in-In.pieces.items c.as_slice.ensures)
    ∙ ap (λ a. text_of (atom_line (atom_in a))) (sym c.in-In.is)))
    c.put_named-in-In-2.ensures

pub returns-in_ok-put_named-in-Le : goal.returns-in_ok-put_named-in-Le
returns-in_ok-put_named-in-Le c =
    let variable = variable_text (variable_in c.in-Le.variable) in
    on_ok_weaker c.put_next.result
    (λ e. ends (string_bytes c.args.text.now) (join_with_byte 32 (codes "a le" ∷ variable ∷ []))
    (32 ∷ signed_decimal c.in-Le.bound) c.in_ok-put_named-in-Le.ensures e
    (ap (λ a. text_of (atom_line (atom_in a))) (sym c.in-Le.is)))
    c.put_next.ensures

pub returns-in_ok-put_next-in-Sum : goal.returns-in_ok-put_next-in-Sum
returns-in_ok-put_next-in-Sum c =
    let slice = c.as_slice-in-Sum.result.now in
    let summands = map summand_in c.in-Sum.summands.items in
    let bound = signed_decimal c.in-Sum.bound in
    on_ok_weaker c.put_fields.result
    (λ e. ends (string_bytes c.args.text.now) (codes "a sum" ++ 32 ∷ bound) (spaced (map summand_text slice))
    (grows (string_bytes c.args.text.now) (codes "a sum") (32 ∷ bound) c.in_ok-push_str-in-Sum.ensures.bytes
    c.in_ok-put_next-in-Sum.ensures) e
    (ap (λ bs. codes "a sum" ++ 32 ∷ (bound ++ bs))
    (looped_summands slice c.in-Sum.summands.items c.as_slice-in-Sum.ensures.value)
    ∙ ap (λ bs. codes "a sum" ++ 32 ∷ bs) (sym (joined_behind 32 bound (flat_map summand_fields summands)))
    ∙ ap (λ a. text_of (atom_line (atom_in a))) (sym c.in-Sum.is)))
    c.put_fields.ensures

pub returns-in-And : goal.returns-in-And
returns-in-And c =
    on_ok_weaker c.put_named-in-And.result
    (λ e. e ∙ ap (λ bs. string_bytes c.args.text.now ++ bs)
    (listed (codes "a") (codes "and") literal_text c.as_slice-in-And.result.now c.in-And.literals.items
    c.as_slice-in-And.ensures
    ∙ ap (λ a. text_of (atom_line (atom_in a))) (sym c.in-And.is)))
    c.put_named-in-And.ensures

pub returns-in-Bool : goal.returns-in-Bool
returns-in-Bool c =
    on_ok_weaker c.put_named.result
    (λ e. e ∙ ap (λ a. string_bytes c.args.text.now ++ text_of (atom_line (atom_in a))) (sym c.in-Bool.is))
    c.put_named.ensures

pub returns-in-Iff : goal.returns-in-Iff
returns-in-Iff c =
    on_ok_weaker c.put_named-in-Iff.result
    (λ e. e ∙ ap (λ a. string_bytes c.args.text.now ++ text_of (atom_line (atom_in a))) (sym c.in-Iff.is))
    c.put_named-in-Iff.ensures

pub returns-in_err-push_str-in-Sum : goal.returns-in_err-push_str-in-Sum
returns-in_err-push_str-in-Sum c = IfOk-from_err c.from_residual-in_err-push_str-in-Sum.result _ c.from_residual-in_err-push_str-in-Sum.ensures.0

pub returns-in_err-put_named-in-In : goal.returns-in_err-put_named-in-In
returns-in_err-put_named-in-In c = IfOk-from_err c.from_residual.result _ c.from_residual.ensures.0

pub returns-in_err-put_named-in-Le : goal.returns-in_err-put_named-in-Le
returns-in_err-put_named-in-Le c = IfOk-from_err c.from_residual-in_err-put_named-in-Le.result _ c.from_residual-in_err-put_named-in-Le.ensures.0

pub returns-in_err-put_next-in-Sum : goal.returns-in_err-put_next-in-Sum
returns-in_err-put_next-in-Sum c = IfOk-from_err c.from_residual-in_err-put_next-in-Sum.result _ c.from_residual-in_err-put_next-in-Sum.ensures.0
