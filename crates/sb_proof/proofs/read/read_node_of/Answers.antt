use Rattle.std.proofs.Common.{ℕ, List, Ok, ◌∙◌, sym, ap, ◌∷◌}
use Rattle.std.proofs.lemmas.Result.{IfOk-from_err}
use Rattle.std.proofs.lemmas.List.{map-id}
use Rattle.sb_rulebook.specs.Reading as reading
use Rattle.sb_rulebook.specs.Lines as lines
use Rattle.sb_proof.specs.Kinds.{node_reader}
use Rattle.sb_proof.specs.Views.{texts}
use Rattle.sb_proof.proofs.ReadFacts.{ok_made, err_made, one_made, some_made, two_made}
use Rattle.sb_proof.proofs.read.read_node_of.Goals as goal

pub returns-in-Ok-3 : goal.returns-in-Ok-3
returns-in-Ok-3 c =
    ap (λ (xs : List ℕ). Ok (lines.alt_node xs)) (sym (map-id c.in-Ok-3.parts.items))
    ∙ ok_made _ lines.alt_node _ _ _ c.in_ok-parts-in-Alt.ensures c.in-Ok-3.is
    ∙ sym (some_made reading.number reading.number (λ x xs. x ∷ xs) lines.alt_node (texts c.args.fields.now))
    ∙ ap (λ k. node_reader k (texts c.args.fields.now)) (sym c.in-Alt.is)

pub returns-in-Ok-4 : goal.returns-in-Ok-4
returns-in-Ok-4 c =
    ap (λ (xs : List ℕ). Ok (lines.and_node xs)) (sym (map-id c.in-Ok-4.parts.items))
    ∙ ok_made _ lines.and_node _ _ _ c.in_ok-parts-in-And.ensures c.in-Ok-4.is
    ∙ sym (some_made reading.number reading.number (λ x xs. x ∷ xs) lines.and_node (texts c.args.fields.now))
    ∙ ap (λ k. node_reader k (texts c.args.fields.now)) (sym c.in-And.is)

pub returns-in_err-first-in-Cat : goal.returns-in_err-first-in-Cat
returns-in_err-first-in-Cat c = IfOk-from_err c.from_residual-in_err-first-in-Cat.result _ c.from_residual-in_err-first-in-Cat.ensures.0

pub returns-in_err-first-in-Path : goal.returns-in_err-first-in-Path
returns-in_err-first-in-Path c = IfOk-from_err c.from_residual-in_err-first-in-Path.result _ c.from_residual-in_err-first-in-Path.ensures.0

pub returns-in_err-part-in-Not : goal.returns-in_err-part-in-Not
returns-in_err-part-in-Not c = IfOk-from_err c.from_residual-in_err-part-in-Not.result _ c.from_residual-in_err-part-in-Not.ensures.0

pub returns-in_err-part-in-Star : goal.returns-in_err-part-in-Star
returns-in_err-part-in-Star c = IfOk-from_err c.from_residual-in_err-part-in-Star.result _ c.from_residual-in_err-part-in-Star.ensures.0

pub returns-in_err-parts-in-Alt : goal.returns-in_err-parts-in-Alt
returns-in_err-parts-in-Alt c = IfOk-from_err c.from_residual-in_err-parts-in-Alt.result _ c.from_residual-in_err-parts-in-Alt.ensures.0

pub returns-in_err-parts-in-And : goal.returns-in_err-parts-in-And
returns-in_err-parts-in-And c = IfOk-from_err c.from_residual-in_err-parts-in-And.result _ c.from_residual-in_err-parts-in-And.ensures.0

pub returns-in_err-ranges-in-Set : goal.returns-in_err-ranges-in-Set
returns-in_err-ranges-in-Set c = IfOk-from_err c.from_residual.result _ c.from_residual.ensures.0

pub returns-in-Err : goal.returns-in-Err
returns-in-Err c =
    err_made _ lines.set_node _ _ c.in-Err.fault c.in_ok-ranges-in-Set.ensures c.in-Err.is
    ∙ sym (one_made reading.ranges (λ x. x) lines.set_node (texts c.args.fields.now))
    ∙ ap (λ k. node_reader k (texts c.args.fields.now)) (sym c.in-Set.is)

pub returns-in-Err-2 : goal.returns-in-Err-2
returns-in-Err-2 c =
    err_made _ (λ p. lines.cat_node p.0 p.1) _ _ c.in-Err-2.fault c.in_ok-first-in-Cat.ensures c.in-Err-2.is
    ∙ sym (two_made reading.number reading.number (λ x y. (x, y)) (λ p. lines.cat_node p.0 p.1) (texts c.args.fields.now))
    ∙ ap (λ k. node_reader k (texts c.args.fields.now)) (sym c.in-Cat.is)

pub returns-in-Err-3 : goal.returns-in-Err-3
returns-in-Err-3 c =
    err_made _ lines.alt_node _ _ c.in-Err-3.fault c.in_ok-parts-in-Alt.ensures c.in-Err-3.is
    ∙ sym (some_made reading.number reading.number (λ x xs. x ∷ xs) lines.alt_node (texts c.args.fields.now))
    ∙ ap (λ k. node_reader k (texts c.args.fields.now)) (sym c.in-Alt.is)

pub returns-in-Err-4 : goal.returns-in-Err-4
returns-in-Err-4 c =
    err_made _ lines.and_node _ _ c.in-Err-4.fault c.in_ok-parts-in-And.ensures c.in-Err-4.is
    ∙ sym (some_made reading.number reading.number (λ x xs. x ∷ xs) lines.and_node (texts c.args.fields.now))
    ∙ ap (λ k. node_reader k (texts c.args.fields.now)) (sym c.in-And.is)

pub returns-in-Err-5 : goal.returns-in-Err-5
returns-in-Err-5 c =
    err_made _ lines.not_node _ _ c.in-Err-5.fault c.in_ok-part-in-Not.ensures c.in-Err-5.is
    ∙ sym (one_made reading.number (λ x. x) lines.not_node (texts c.args.fields.now))
    ∙ ap (λ k. node_reader k (texts c.args.fields.now)) (sym c.in-Not.is)

pub returns-in-Err-6 : goal.returns-in-Err-6
returns-in-Err-6 c =
    err_made _ lines.star_node _ _ c.in-Err-6.fault c.in_ok-part-in-Star.ensures c.in-Err-6.is
    ∙ sym (one_made reading.number (λ x. x) lines.star_node (texts c.args.fields.now))
    ∙ ap (λ k. node_reader k (texts c.args.fields.now)) (sym c.in-Star.is)

pub returns-in-Err-7 : goal.returns-in-Err-7
returns-in-Err-7 c =
    err_made _ (λ p. lines.path_node p.0 p.1) _ _ c.in-Err-7.fault c.in_ok-first-in-Path.ensures c.in-Err-7.is
    ∙ sym (two_made reading.number reading.number (λ x y. (x, y)) (λ p. lines.path_node p.0 p.1) (texts c.args.fields.now))
    ∙ ap (λ k. node_reader k (texts c.args.fields.now)) (sym c.in-Path.is)

pub returns-in-Ok : goal.returns-in-Ok
returns-in-Ok c =
    ok_made _ lines.set_node _ _ _ c.in_ok-ranges-in-Set.ensures c.in-Ok.is
    ∙ sym (one_made reading.ranges (λ x. x) lines.set_node (texts c.args.fields.now))
    ∙ ap (λ k. node_reader k (texts c.args.fields.now)) (sym c.in-Set.is)

pub returns-in-Ok-2 : goal.returns-in-Ok-2
returns-in-Ok-2 c =
    ok_made _ (λ p. lines.cat_node p.0 p.1) _ _ _ c.in_ok-first-in-Cat.ensures c.in-Ok-2.is
    ∙ sym (two_made reading.number reading.number (λ x y. (x, y)) (λ p. lines.cat_node p.0 p.1) (texts c.args.fields.now))
    ∙ ap (λ k. node_reader k (texts c.args.fields.now)) (sym c.in-Cat.is)

pub returns-in-Ok-5 : goal.returns-in-Ok-5
returns-in-Ok-5 c =
    ok_made _ lines.not_node _ _ _ c.in_ok-part-in-Not.ensures c.in-Ok-5.is
    ∙ sym (one_made reading.number (λ x. x) lines.not_node (texts c.args.fields.now))
    ∙ ap (λ k. node_reader k (texts c.args.fields.now)) (sym c.in-Not.is)

pub returns-in-Ok-6 : goal.returns-in-Ok-6
returns-in-Ok-6 c =
    ok_made _ lines.star_node _ _ _ c.in_ok-part-in-Star.ensures c.in-Ok-6.is
    ∙ sym (one_made reading.number (λ x. x) lines.star_node (texts c.args.fields.now))
    ∙ ap (λ k. node_reader k (texts c.args.fields.now)) (sym c.in-Star.is)

pub returns-in-Ok-7 : goal.returns-in-Ok-7
returns-in-Ok-7 c =
    ok_made _ (λ p. lines.path_node p.0 p.1) _ _ _ c.in_ok-first-in-Path.ensures c.in-Ok-7.is
    ∙ sym (two_made reading.number reading.number (λ x y. (x, y)) (λ p. lines.path_node p.0 p.1) (texts c.args.fields.now))
    ∙ ap (λ k. node_reader k (texts c.args.fields.now)) (sym c.in-Path.is)
