use Rattle.std.proofs.Common.{◌≡◌, Bool, true, false, not, ◌==◌, ◌∷◌, [], ◌++◌, refl, ap, sym, ◌∙◌}
use Rattle.std.specs.List.{list_any, position_or_len}
use Rattle.std.proofs.lemmas.Bool.Decides.{Decides-eqb}
use Rattle.std.proofs.lemmas.Map.Made.{AllPairs-from_IsDistinct}
use Rattle.sb_deriv.proofs.Gathered.{with_range-new, with_range-put, keys_put}
use Rattle.sb_deriv.proofs.targets.put.Goals as goal

is_new : (added present : Bool) → added ≡ not present → added ≡ true → present ≡ false
is_new added true e h = absurd (cc)
is_new added false e h = refl

is_old : (added present : Bool) → added ≡ not present → added ≡ false → present ≡ true
is_old added true e h = refl
is_old added false e h = absurd (cc)

pub returns-then-added-clause-once : goal.returns-then-added-clause-once
returns-then-added-clause-once c =
    AllPairs-from_IsDistinct Decides-eqb c.insert_full.new.self.keys c.in_ok-place.ensures.unique

pub returns-then-added-clause-put : goal.returns-then-added-clause-put
returns-then-added-clause-put c =
    c.in_ok-push.ensures.items ∙ ap (λ g. c.args.gathered.now.items ++ g ∷ []) c.in_ok-new.ensures
    ∙ sym (with_range-new c.args.target c.args.range c.args.gathered.now.items
    (ap (list_any (λ s. c.args.target == s)) (sym c.requires)
    ∙ is_new _ _ c.in_ok-place.ensures.added c.if-added.true))

pub returns-clause-once : goal.returns-clause-once
returns-clause-once c = AllPairs-from_IsDistinct Decides-eqb c.insert_full.new.self.keys c.in_ok-place.ensures.unique

pub returns-clause-put : goal.returns-clause-put
returns-clause-put c =
    with_range-put c.args.target c.args.range c.args.gathered.now.items c.in_ok-place.place c.index_mut.result.now
    c.push-2.new.self
    (ap (list_any (λ s. c.args.target == s)) (sym c.requires) ∙ is_old _ _ c.in_ok-place.ensures.added c.if-added.false)
    (c.in_ok-place.ensures.index ∙ ap (position_or_len (λ s. c.args.target == s)) c.requires)
    c.index_mut.ensures.value c.in_ok-push-2.ensures

pub returns-clause-keys : goal.returns-clause-keys
returns-clause-keys c =
    keys_put c.args.target c.args.range c.args.seen.now.keys c.insert_full.new.self.keys c.args.gathered.now.items _
    c.requires
    (is_old _ _ c.in_ok-place.ensures.added c.if-added.false) c.in_ok-place.ensures.keys (returns-clause-put c)
