use Rattle.std.proofs.Common.{◌≡◌, [], ◌∷◌, ◌++◌, reverse, ap, sym, subst, ◌∙◌}
use Rattle.std.proofs.lemmas.List.{reverse-append}
use Rattle.sb_sorts.specs.declared.locals.Binding.{Binding}
use Rattle.sb_sorts.specs.Locals.{bound_to, AreBound}
use Rattle.sb_sorts.proofs.Bound.{bound_more}
use Rattle.sb_sorts.proofs.locals.Locals.push.Goals as goal

pub invariant_of-self-in-Ok : goal.invariant_of-self-in-Ok
invariant_of-self-in-Ok c =
    let items = c.self.inside.bindings.items in
    let b : Binding = record { name = c.in_ok-from_slice.field-0; id = c.args.id; outer = c.get-outer.result } in
    let pushed : reverse c.push.new.self.items ≡ b ∷ reverse items =
    ap reverse (c.in_ok-push-in-Ok.ensures.items ∙ ap (λ xs. xs ++ b ∷ []) c.reserve.ensures.items)
    ∙ reverse-append items (b ∷ []) in
    subst (AreBound c.insert.new.self.entries) (sym pushed)
    (bound_more c.self.inside.bound.entries c.insert.new.self.entries (reverse items) b c.in_ok-key.key c.args.name.now
    c.self.invariant c.in_ok-key.ensures.items c.in_ok-from_slice.ensures.items
    (c.get-outer.ensures ∙ ap (λ l. bound_to l c.args.name.now) (sym c.self.view_is)) c.in-Ok.ensures.entries)
