use Rattle.std.proofs.Common.{[], ◌∷◌, reverse, ap, subst, ◌∙◌}
use Rattle.std.proofs.lemmas.List.{reverse-append}
use Rattle.sb_sorts.specs.Locals.{AreBound}
use Rattle.sb_sorts.proofs.Bound.{bound_there, bound_less}
use Rattle.sb_sorts.proofs.locals.Locals.pop.Goals as goal

pub restore-requires : goal.restore-requires
restore-requires c =
    let es = c.self.inside.bound.entries in
    let bs = reverse c.pop.new.self.items in
    let all = ap reverse c.in-Some.ensures.items ∙ reverse-append c.pop.new.self.items (c.in-Some.binding ∷ []) in
    bound_there es bs c.in-Some.binding (subst (AreBound es) all c.self.invariant)

pub invariant_of-self : goal.invariant_of-self
invariant_of-self c =
    let es = c.self.inside.bound.entries in
    let bs = reverse c.pop.new.self.items in
    let all = ap reverse c.in-Some.ensures.items ∙ reverse-append c.pop.new.self.items (c.in-Some.binding ∷ []) in
    bound_less es c.restore.new.bound.entries bs c.in-Some.binding (subst (AreBound es) all c.self.invariant)
    c.restore.ensures
