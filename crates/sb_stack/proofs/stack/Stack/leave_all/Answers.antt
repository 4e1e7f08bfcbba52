use Rattle.std.proofs.Common.{[], reverse, ap, ap₂, sym, subst, ◌∙◌}
use Rattle.sb_script.specs.State.{without_assertions}
use Rattle.sb_sorts.specs.Scopes.{constants_among}
use Rattle.sb_stack.specs.declared.stack.Mode.TheVariants as mode
use Rattle.sb_stack.specs.Stacked.{Stacked, state_of}
use Rattle.sb_stack.specs.Keeping.{IsKept}
use Rattle.sb_stack.specs.Speaking.{are_assumed}
use Rattle.sb_stack.proofs.Changes.{kept_all_left, cleared_is}
use Rattle.sb_stack.proofs.stack.Stack.leave_all.Goals as goal

pub invariant_of-self : goal.invariant_of-self
invariant_of-self c = record {
  kept = subst (λ xs. IsKept c.self.inside.begun c.leave.new.self c.self.inside.table xs
      (reverse c.clear-2.new.self.items)) (sym c.clear.ensures.items)
      (subst (λ ls. IsKept c.self.inside.begun c.leave.new.self c.self.inside.table [] (reverse ls))
      (sym c.clear-2.ensures.items)
      (kept_all_left c.self.inside.begun c.self.inside.scope c.leave.new.self c.self.inside.table
      c.self.inside.assertions.items (reverse c.self.inside.levels.items) c.leave.ensures c.self.invariant.kept));
  assumed = ap (are_assumed (constants_among c.leave.new.self.names)) c.clear-3.ensures.items;
}

pub returns-clause-state : goal.returns-clause-state
returns-clause-state c =
    let kept : Stacked = record {
      logic_set = c.self.inside.logic_set;
      begun = c.self.inside.begun;
      print_success = c.self.inside.print_success;
      produce_models = c.self.inside.produce_models;
      produce_unsat_assumptions = c.self.inside.produce_unsat_assumptions;
      scope = c.self.inside.scope;
      mode = c.self.inside.mode;
      words = c.self.inside.words.items;
      truths = c.self.inside.truths.items;
      assumptions = c.self.inside.assumptions.items;
      unsat_assumptions = c.self.inside.unsat_assumptions.items;
      table = c.self.inside.table;
      assertions = c.self.inside.assertions.items;
      levels = reverse c.self.inside.levels.items;
    } in
    ap₂ (λ xs ls. state_of (record kept {
      mode = mode.Plain;
      scope = c.leave.new.self;
      assertions = xs;
      levels = reverse ls;
    })) c.clear.ensures.items c.clear-2.ensures.items
    ∙ cleared_is kept c.leave.new.self c.leave.ensures
    ∙ ap (λ (k : Stacked). without_assertions (state_of k)) c.self.view_is
