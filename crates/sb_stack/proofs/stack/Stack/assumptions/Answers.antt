use Rattle.std.proofs.Common.{map, ap, sym, subst, ◌∙◌}
use Rattle.std.proofs.lemmas.List.{length-map}
use Rattle.sb_term.specs.Symbols.{sort_in}
use Rattle.sb_sorts.specs.Scopes.{constants_among, are_sorted}
use Rattle.sb_stack.specs.Stacked.{Stacked, AreAssumed}
use Rattle.sb_stack.proofs.AssumedFacts.{assumed_sorted, assumed_below}
use Rattle.sb_stack.proofs.stack.Stack.assumptions.Goals as goal

pub returns-clause-assumed : goal.returns-clause-assumed
returns-clause-assumed c =
    let scope = c.self.inside.scope in
    let sorts = map sort_in scope.sorts in
    let given = c.self.inside.assumptions.items in
    let sorted = ap (λ ss. are_sorted (map sort_in ss) (constants_among scope.names)) (sym c.sorts-sorts.ensures.value)
    ∙ c.sorts-sorts.ensures.sorted in
    let there = assumed_sorted sorts (constants_among scope.names) given sorted c.self.invariant.assumed in
    subst (λ (k : Stacked). AreAssumed k) c.self.view_is (record {
      live = c.self.invariant.assumed;
      sorted = there;
      below = assumed_below sorts _ given (length-map scope.sorts sort_in) there;
    })
