use Rattle.std.proofs.Common.{[], reverse, ap, ◌∙◌}
use Rattle.sb_sorts.specs.Scopes.{constants_among}
use Rattle.sb_stack.specs.Speaking.{are_assumed}
use Rattle.sb_stack.specs.Stacked.{Stacked}
use Rattle.sb_stack.proofs.stack.Stack.check.Goals as goal

pub invariant_of-self : goal.invariant_of-self
invariant_of-self c = record {
  kept = c.self.invariant.kept;
  assumed = ap (are_assumed (constants_among c.self.inside.scope.names)) c.clear.ensures.items;
}

pub returns-clause-given : goal.returns-clause-given
returns-clause-given c =
    let kept : Stacked = record {
      logic_set = c.self.inside.logic_set;
      begun = c.self.inside.begun;
      print_success = c.self.inside.print_success;
      produce_models = c.self.inside.produce_models;
      produce_unsat_assumptions = c.self.inside.produce_unsat_assumptions;
      scope = c.self.inside.scope;
      mode = c.self.inside.mode;
      words = c.self.inside.words.items;
      truths = c.self.inside.truths.items;
      assumptions = c.self.inside.assumptions.items;
      unsat_assumptions = c.self.inside.unsat_assumptions.items;
      table = c.self.inside.table;
      assertions = c.self.inside.assertions.items;
      levels = reverse c.self.inside.levels.items;
    } in
    ap (λ xs. record kept { assumptions = xs }) c.clear.ensures.items
    ∙ ap (λ (k : Stacked). record k { assumptions = [] }) c.self.view_is
