use Rattle.std.proofs.Common.{[], map, None, ap, ◌∙◌}
use Rattle.sb_lit.specs.Kept.{Kept}
use Rattle.sb_hints.specs.Storing.{kept_in}
use Rattle.sb_hints.proofs.Storage.{kept-none}
use Rattle.sb_hints.proofs.Scoping.{down_to_none, none_after}
use Rattle.sb_hints.proofs.Upkeep.{order_none}
use Rattle.sb_hints.proofs.clauses.KeptClauses.leave_all.Goals as goal

pub invariant_of-self : goal.invariant_of-self
invariant_of-self c =
    let ls = c.self.inside.literals.items in
    let went = c.drop_left.ensures.kept ls c.self.invariant in
    rw c.clear.ensures.items
    (order_none ls [] c.drop_left.new.rows.items _ _ (none_after (kept_in ls c.self.inside.rows.items) _ went)
    (c.drop_left.ensures.order ls c.self.invariant))

pub returns : goal.returns
returns c =
    let ls = c.self.inside.literals.items in
    let kept = kept_in ls c.self.inside.rows.items in
    let went = c.drop_left.ensures.kept ls c.self.invariant in
    rw c.clear.ensures.items
    (kept-none ls [] c.drop_left.new.rows.items (none_after kept _ went) ∙ went ∙ down_to_none kept
    ∙ ap (λ (all : Kept). map (λ place. None) all) c.self.view_is)
