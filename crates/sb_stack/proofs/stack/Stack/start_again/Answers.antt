use Rattle.std.proofs.Common.{true, false, [], length, reverse, refl, ap, ap₂, sym, subst, ◌∙◌, arith}
use Rattle.sb_script.specs.State.{start_behind}
use Rattle.sb_sorts.specs.Scopes.{ScopeNames, constants_among}
use Rattle.sb_stack.specs.declared.stack.Mode.TheVariants as mode
use Rattle.sb_stack.specs.Stacked.{Stacked, state_of}
use Rattle.sb_stack.specs.Keeping.{IsKept, Leaves}
use Rattle.sb_stack.specs.Speaking.{are_assumed}
use Rattle.sb_stack.proofs.Changes.{kept_restarted, restarted_is}
use Rattle.sb_stack.proofs.Lefts.{leaves_front}
use Rattle.sb_stack.proofs.stack.Stack.start_again.Goals as goal

pub invariant_of-self : goal.invariant_of-self
invariant_of-self c =
    let table = c.self.inside.table in
    record {
      kept = subst (λ xs. IsKept false c.clear.new.self table xs (reverse c.clear-3.new.self.items))
          (sym c.clear-2.ensures.items)
          (subst (λ ls. IsKept false c.clear.new.self table [] (reverse ls)) (sym c.clear-3.ensures.items)
          (kept_restarted c.self.inside.begun c.self.inside.scope c.clear.new.self table c.self.inside.assertions.items
          (reverse c.self.inside.levels.items) c.clear.ensures c.self.invariant.kept));
      assumed = ap (are_assumed (constants_among c.clear.new.self.names)) c.clear-4.ensures.items;
    }

pub returns-clause-state : goal.returns-clause-state
returns-clause-state c =
    let kept : Stacked = record {
      logic_set = c.self.inside.logic_set;
      begun = c.self.inside.begun;
      print_success = c.self.inside.print_success;
      produce_models = c.self.inside.produce_models;
      produce_unsat_assumptions = c.self.inside.produce_unsat_assumptions;
      scope = c.self.inside.scope;
      mode = c.self.inside.mode;
      words = c.self.inside.words.items;
      truths = c.self.inside.truths.items;
      assumptions = c.self.inside.assumptions.items;
      unsat_assumptions = c.self.inside.unsat_assumptions.items;
      table = c.self.inside.table;
      assertions = c.self.inside.assertions.items;
      levels = reverse c.self.inside.levels.items;
    } in
    ap₂ (λ xs ls. state_of (record kept {
      logic_set = false;
      begun = false;
      print_success = true;
      produce_models = false;
      produce_unsat_assumptions = false;
      mode = mode.Plain;
      scope = c.clear.new.self;
      assertions = xs;
      levels = reverse ls;
    })) c.clear-2.ensures.items c.clear-3.ensures.items
    ∙ restarted_is kept c.clear.new.self c.clear.ensures
    ∙ ap (λ (k : Stacked). start_behind (state_of k).sorts) c.self.view_is

pub returns-clause-leaves : goal.returns-clause-leaves
returns-clause-leaves c =
    let kept : Stacked = record {
      logic_set = c.self.inside.logic_set;
      begun = c.self.inside.begun;
      print_success = c.self.inside.print_success;
      produce_models = c.self.inside.produce_models;
      produce_unsat_assumptions = c.self.inside.produce_unsat_assumptions;
      scope = c.self.inside.scope;
      mode = c.self.inside.mode;
      words = c.self.inside.words.items;
      truths = c.self.inside.truths.items;
      assumptions = c.self.inside.assumptions.items;
      unsat_assumptions = c.self.inside.unsat_assumptions.items;
      table = c.self.inside.table;
      assertions = c.self.inside.assertions.items;
      levels = reverse c.self.inside.levels.items;
    } in
    let new : Stacked = record kept {
      logic_set = false;
      begun = false;
      print_success = true;
      produce_models = false;
      produce_unsat_assumptions = false;
      mode = mode.Plain;
      scope = c.clear.new.self;
      assumptions = c.clear-4.new.self.items;
      assertions = c.clear-2.new.self.items;
      levels = reverse c.clear-3.new.self.items;
    } in
    let same = ap (λ (s : ScopeNames). length s.sorts) c.clear.ensures in
    subst (λ (k : Stacked). Leaves k new) c.self.view_is
    (leaves_front kept new 0 refl c.clear-2.ensures.items refl (omega (arith, same)))
