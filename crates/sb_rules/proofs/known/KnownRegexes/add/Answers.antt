use Rattle.std.proofs.Common.{◌++◌, ◌∷◌, [], None, false, nat_eq, ap, ◌∙◌}
use Rattle.std.specs.List.{list_any}
use Rattle.sb_rules.specs.Known.{Known}
use Rattle.sb_rules.proofs.Loops.{one-more}
use Rattle.sb_rules.proofs.known.KnownRegexes.add.Goals as goal

pub invariant_of-self-2 : goal.invariant_of-self-2
invariant_of-self-2 c =
    let order = c.self.inside.order.keys in
    let new = c.insert.new.self.keys in
    let none = ap (λ (t : Known). list_any (nat_eq c.args.id) t.order) c.self.view_is ∙ c.requires in
    let inserted = c.in_ok-insert.ensures.keys in (
      one-more order new c.args.id c.self.inside.expansions.items c.push.new.self.items _ c.self.invariant.0 none
          inserted (c.in_ok-push.ensures.items ∙ ap (λ xs. xs ++ None ∷ []) c.in_ok-reserve.ensures.items),
      one-more order new c.args.id c.self.inside.dead.items c.push-2.new.self.items _ c.self.invariant.1 none
          inserted (c.in_ok-push-2.ensures.items ∙ ap (λ xs. xs ++ false ∷ []) c.in_ok-reserve-2.ensures.items),
    )
