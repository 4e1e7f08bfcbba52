use Rattle.std.proofs.Common.{reverse, sym, ap, map, ◌∙◌}
use Rattle.sb_stack.specs.Stacked.{Stacked, assertion_in}
use Rattle.sb_stack.proofs.Changes.{assertions_live}
use Rattle.sb_stack.proofs.Live.{live_speak}
use Rattle.sb_stack.proofs.stack.Stack.assertions.Goals as goal

pub returns-clause-live : goal.returns-clause-live
returns-clause-live c =
    let kept : Stacked = record {
      logic_set = c.self.inside.logic_set;
      begun = c.self.inside.begun;
      print_success = c.self.inside.print_success;
      produce_models = c.self.inside.produce_models;
      produce_unsat_assumptions = c.self.inside.produce_unsat_assumptions;
      scope = c.self.inside.scope;
      mode = c.self.inside.mode;
      words = c.self.inside.words.items;
      truths = c.self.inside.truths.items;
      assumptions = c.self.inside.assumptions.items;
      unsat_assumptions = c.self.inside.unsat_assumptions.items;
      table = c.self.inside.table;
      assertions = c.self.inside.assertions.items;
      levels = reverse c.self.inside.levels.items;
    } in
    rw (← c.self.view_is)
    (ap (map (assertion_in c.self.inside.table)) c.as_slice.ensures.value ∙ sym (assertions_live kept))

pub returns-clause-named : goal.returns-clause-named
returns-clause-named c =
    let kept : Stacked = record {
      logic_set = c.self.inside.logic_set;
      begun = c.self.inside.begun;
      print_success = c.self.inside.print_success;
      produce_models = c.self.inside.produce_models;
      produce_unsat_assumptions = c.self.inside.produce_unsat_assumptions;
      scope = c.self.inside.scope;
      mode = c.self.inside.mode;
      words = c.self.inside.words.items;
      truths = c.self.inside.truths.items;
      assumptions = c.self.inside.assumptions.items;
      unsat_assumptions = c.self.inside.unsat_assumptions.items;
      table = c.self.inside.table;
      assertions = c.self.inside.assertions.items;
      levels = reverse c.self.inside.levels.items;
    } in
    rw (← c.self.view_is) (rw (assertions_live kept)
    (live_speak c.self.inside.scope.global (reverse c.self.inside.levels.items) c.self.inside.scope.names
    (map (assertion_in c.self.inside.table) c.self.inside.assertions.items) c.self.invariant.kept.theirs))
