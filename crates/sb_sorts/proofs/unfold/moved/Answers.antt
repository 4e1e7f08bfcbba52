use Rattle.std.proofs.Common.{[], ◌∷◌, ◌++◌, map, sym, ap, ap₂, ◌∙◌}
use Rattle.std.proofs.lemmas.List.{map_more, take_all}
use Rattle.sb_sorts.specs.Unfolding.{next_in}
use Rattle.sb_sorts.proofs.unfold.moved.Goals as goal

pub loop-id-preserved : goal.loop-id-preserved
loop-id-preserved c =
    let f = next_in c.args.made.now.entries in
    c.in_ok-push.ensures.ok
    ∙ ap₂ (λ xs x. xs ++ x ∷ []) c.loop-id.invariant (c.next_of.ensures ∙ ap f c.id-item.is)
    ∙ sym (map_more f c.args.ids.now c.loop-id.id-index c.id-item.result c.loop-id-test.true)

pub returns : goal.returns
returns c =
    let f = next_in c.args.made.now.entries in
    c.loop-id.invariant ∙ ap (map f) (take_all c.loop-id.id-index c.args.ids.now c.loop-id-test.false)
