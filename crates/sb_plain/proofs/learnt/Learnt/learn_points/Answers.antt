use Rattle.std.proofs.Common.{◌∙◌, ap, ap₂, sym, Some, set, length}
use Rattle.std.proofs.lemmas.List.{length-set}
use Rattle.std.specs.Prelude.{is_some}
use Rattle.sb_plain.proofs.Remembering.{places_exist, right_lists, found_lists, place_right, found_elsewhere, found_kept}
use Rattle.sb_plain.proofs.learnt.Learnt.learn_points.Goals as goal

pub place_for-requires-clause-exist : goal.place_for-requires-clause-exist
place_for-requires-clause-exist c = places_exist c.args.arena.now c.args.self.now c.requires.right

pub returns-in_err-place-clause-right : goal.returns-in_err-place-clause-right
returns-in_err-place-clause-right c =
    right_lists c.args.arena.now c.args.self.now c.place_for.new.self c.in_err-place.ensures.grown c.requires.right

pub returns-in_err-place-clause-elsewhere : goal.returns-in_err-place-clause-elsewhere
returns-in_err-place-clause-elsewhere c = λ n x a.
    found_lists c.args.arena.now c.args.self.now c.place_for.new.self c.in_err-place.ensures.grown c.requires.right n x

pub returns-in_err-place-clause-kept : goal.returns-in_err-place-clause-kept
returns-in_err-place-clause-kept c = λ n x a.
    found_lists c.args.arena.now c.args.self.now c.place_for.new.self c.in_err-place.ensures.grown c.requires.right n x

pub returns-clause-right : goal.returns-clause-right
returns-clause-right c =
    place_right c.args.arena.now c.args.self.now c.place_for.new.self _ c.args.id c.in_ok-place.place
    c.args.operation.now c.args.parts.now c.requires.right c.in_ok-place.ensures.grown (ap (λ x. x.0) c.self.view_is)
    (ap₂ (λ xs k. set xs k (Some c.in_ok-place.place)) (ap (λ x. x.1.0) c.self.view_is) c.number.ensures)
    (ap (λ x. x.1.1) c.self.view_is) c.requires.known c.requires.room c.in_ok-place.ensures.ok c.requires.shape
    c.requires.parts

pub returns-clause-elsewhere : goal.returns-clause-elsewhere
returns-clause-elsewhere c =
    found_elsewhere c.args.arena.now c.args.self.now c.place_for.new.self _ c.args.id c.in_ok-place.place
    c.args.operation.now c.args.parts.now c.requires.right c.in_ok-place.ensures.grown (ap (λ x. x.0) c.self.view_is)
    (ap₂ (λ xs k. set xs k (Some c.in_ok-place.place)) (ap (λ x. x.1.0) c.self.view_is) c.number.ensures)
    (ap (λ x. x.1.1) c.self.view_is)

pub returns-clause-kept : goal.returns-clause-kept
returns-clause-kept c =
    found_kept c.args.arena.now c.args.self.now c.place_for.new.self _ c.args.id c.in_ok-place.place
    c.args.operation.now c.args.parts.now c.requires.right c.in_ok-place.ensures.grown (ap (λ x. x.0) c.self.view_is)
    (ap₂ (λ xs k. set xs k (Some c.in_ok-place.place)) (ap (λ x. x.1.0) c.self.view_is) c.number.ensures)
    (ap (λ x. x.1.1) c.self.view_is) (ap is_some (sym c.place.ensures) ∙ sym c.is_some.ensures ∙ c.if-is_some.false)

pub returns-clause-long : goal.returns-clause-long
returns-clause-long c =
    length-set c.self.inside.places.items _ _ ∙ ap (λ m. length m.1.0) c.self.view_is
    ∙ ap (λ m. length m.0) c.in_ok-place.ensures.grown.rest
