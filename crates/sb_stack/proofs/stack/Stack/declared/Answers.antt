use Rattle.std.proofs.Common.{reverse, map, ap, sym, ◌∙◌}
use Rattle.sb_term.specs.Symbols.{sort_in}
use Rattle.sb_sorts.specs.Scopes.{constants_among, are_sorted}
use Rattle.sb_stack.specs.Stacked.{Stacked}
use Rattle.sb_stack.proofs.Changes.{constants_live}
use Rattle.sb_stack.proofs.Live.{fitting}
use Rattle.sb_stack.proofs.stack.Stack.declared.Goals as goal

pub returns-clause-constants : goal.returns-clause-constants
returns-clause-constants c =
    let kept : Stacked = record {
      logic_set = c.self.inside.logic_set;
      begun = c.self.inside.begun;
      print_success = c.self.inside.print_success;
      produce_models = c.self.inside.produce_models;
      produce_unsat_assumptions = c.self.inside.produce_unsat_assumptions;
      scope = c.self.inside.scope;
      mode = c.self.inside.mode;
      words = c.self.inside.words.items;
      truths = c.self.inside.truths.items;
      assumptions = c.self.inside.assumptions.items;
      unsat_assumptions = c.self.inside.unsat_assumptions.items;
      table = c.self.inside.table;
      assertions = c.self.inside.assertions.items;
      levels = reverse c.self.inside.levels.items;
    } in
    rw (← c.self.view_is) (constants_live kept)

pub returns-clause-fit : goal.returns-clause-fit
returns-clause-fit c =
    let kept : Stacked = record {
      logic_set = c.self.inside.logic_set;
      begun = c.self.inside.begun;
      print_success = c.self.inside.print_success;
      produce_models = c.self.inside.produce_models;
      produce_unsat_assumptions = c.self.inside.produce_unsat_assumptions;
      scope = c.self.inside.scope;
      mode = c.self.inside.mode;
      words = c.self.inside.words.items;
      truths = c.self.inside.truths.items;
      assumptions = c.self.inside.assumptions.items;
      unsat_assumptions = c.self.inside.unsat_assumptions.items;
      table = c.self.inside.table;
      assertions = c.self.inside.assertions.items;
      levels = reverse c.self.inside.levels.items;
    } in
    rw (← c.self.view_is)
    (λ words truths w. rw (constants_live kept)
    (fitting c.self.inside.table c.self.inside.scope.sorts c.self.inside.scope.names words truths
    c.self.invariant.kept.brought
    (ap (λ ss. are_sorted (map sort_in ss) (constants_among c.self.inside.scope.names)) (sym c.sorts-sorts.ensures.value)
    ∙ c.sorts-sorts.ensures.sorted) w))
