use Rattle.std.proofs.Common.{ℕ, ◌∙◌, ◌<◌, ap, sym, subst, length, ◌∷◌, [], ◌++◌, arith, List}
use Rattle.std.specs.List.{All}
use Rattle.std.proofs.lemmas.Bool.Decides.{nat_tests}
use Rattle.sb_plain.proofs.Remembering.{one_place, lists_pushed, new_place}
use Rattle.sb_plain.proofs.learnt.Learnt.place_for.Goals as goal

pub returns-then-is_empty-clause-ok : goal.returns-then-is_empty-clause-ok
returns-then-is_empty-clause-ok c =
    let l = c.in_ok-places.ensures.within 0 c.index-place.result.now
    (omega (arith, c.if-len-eq1.true, c.len.ensures)) in
    one_place c.args.self.now c.args.operation.now c.args.parts.now c.in_ok-places.places.items c.index-place.result.now
    c.in_ok-places.ensures.all (omega (arith, c.if-len-eq1.true, c.len.ensures)) c.index-place.ensures
    (subst (λ (x : ℕ). x < length c.args.self.now.0) (sym c.index-place.ensures) l)
    (ap length (sym c.ranges-ranges.ensures) ∙ grind (arith, nat_tests, c.is_empty.ensures, c.if-is_empty.true))
    c.has_points.ensures

pub returns-clause-ok : goal.returns-clause-ok
returns-clause-ok c =
    new_place c.args.self.now _ c.in_ok-points.points
    (c.in_ok-push.ensures.items ∙ ap (λ x. x.0 ++ c.in_ok-points.points ∷ []) c.self.view_is)
    (ap (λ x. x.1) c.self.view_is)
    c.args.operation.now c.args.parts.now c.in_ok-places.places.items _ c.in_ok-places.ensures.all
    (rw (c.deref.ensures.value, c.deref-2.ensures.value, ap (λ x. x.0) c.self.view_is) at c.in_ok-points.ensures.lists)
    (omega (arith, c.len-2.ensures, c.in_ok-push.ensures.len, ap (λ x. length x.0) c.self.view_is))
    c.in_ok-points.ensures.points
    (rw (c.ranges-ranges.ensures) at c.in_ok-points.ensures.ranges)

pub returns-clause-grown : goal.returns-clause-grown
returns-clause-grown c =
    lists_pushed c.args.self.now _ c.in_ok-points.points
    (c.in_ok-push.ensures.items ∙ ap (λ x. x.0 ++ c.in_ok-points.points ∷ []) c.self.view_is)
    (ap (λ x. x.1) c.self.view_is)

pub merge-requires : goal.merge-requires
merge-requires c =
    let listed = subst (λ (is : List ℕ). All (λ k. k < length c.args.self.now.0) is) (sym c.deref-2.ensures.value)
    c.in_ok-places.ensures.within in
    subst (λ (ls : List (List ℕ)). All (λ k. k < length ls) c.deref-2.result.now)
    (sym (c.deref.ensures.value ∙ ap (λ m. m.0) c.self.view_is)) listed

pub has_points-requires : goal.has_points-requires
has_points-requires c =
    subst (λ (x : ℕ). x < length c.args.self.now.0) (sym c.index-place.ensures)
    (c.in_ok-places.ensures.within 0 c.index-place.result.now (omega (arith, c.if-len-eq1.true, c.len.ensures)))
