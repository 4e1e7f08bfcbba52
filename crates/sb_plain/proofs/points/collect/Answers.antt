use Rattle.std.proofs.Common.{[], ◌∷◌, ◌++◌, subst, sym, ap, ◌∙◌, append_assoc}
use Rattle.std.proofs.lemmas.List.{append-nil}
use Rattle.sb_plain.specs.CutPoints.{ArePoints}
use Rattle.sb_plain.proofs.PointFacts.{none_left}
use Rattle.sb_plain.proofs.points.collect.Goals as goal

pub new-requires : goal.new-requires
new-requires c =
    let none = none_left c.loop-point.set.keys c.pop_first.result c.in_default.is c.pop_first.ensures.variant.1 in
    subst ArePoints
    (c.loop-point.invariant ∙ ap (λ x. c.loop-point.points.items ++ x) none ∙ append-nil c.loop-point.points.items)
    c.requires

pub loop-point-preserved : goal.loop-point-preserved
loop-point-preserved c =
    c.loop-point.invariant
    ∙ ap (λ x. c.loop-point.points.items ++ x) c.in-Some.ensures.removal
    ∙ sym (append_assoc c.loop-point.points.items (c.in-Some.point ∷ []) c.pop_first.new.self.keys)
    ∙ ap (λ x. x ++ c.pop_first.new.self.keys) (sym c.in_ok-push.ensures.items)

pub returns : goal.returns
returns c =
    let none = none_left c.loop-point.set.keys c.pop_first.result c.in_default.is c.pop_first.ensures.variant.1 in
    c.new.ensures
    ∙ sym (c.loop-point.invariant ∙ ap (λ x. c.loop-point.points.items ++ x) none
    ∙ append-nil c.loop-point.points.items)
