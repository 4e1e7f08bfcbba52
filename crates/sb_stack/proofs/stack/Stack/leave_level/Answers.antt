use Rattle.std.proofs.Common.{length, reverse, refl, ap, subst, arith}
use Rattle.sb_sorts.specs.Scopes.{ScopeNames, constants_among}
use Rattle.sb_stack.specs.declared.stack.Mode.TheVariants as mode
use Rattle.sb_stack.specs.Stacked.{Stacked}
use Rattle.sb_stack.specs.Keeping.{Leaves}
use Rattle.sb_stack.specs.Speaking.{are_assumed}
use Rattle.sb_stack.proofs.Lefts.{left_kept, left_state, leaves_front}
use Rattle.sb_stack.proofs.stack.Stack.leave_level.Goals as goal

pub invariant_of-self : goal.invariant_of-self
invariant_of-self c = record {
  kept = left_kept c.self.inside.begun c.self.inside.scope c.leave.new.self c.self.inside.table
      c.self.inside.assertions.items c.truncate.new.self.items c.self.inside.levels.items c.pop.new.self.items
      c.in-Some.level c.in-Some.ensures.items c.leave.ensures c.truncate.ensures.items c.self.invariant.kept;
  assumed = ap (are_assumed (constants_among c.leave.new.self.names)) c.clear.ensures.items;
}

pub returns-in-Some-clause-state : goal.returns-in-Some-clause-state
returns-in-Some-clause-state c =
    let kept : Stacked = record {
      logic_set = c.self.inside.logic_set;
      begun = c.self.inside.begun;
      print_success = c.self.inside.print_success;
      produce_models = c.self.inside.produce_models;
      produce_unsat_assumptions = c.self.inside.produce_unsat_assumptions;
      scope = c.self.inside.scope;
      mode = c.self.inside.mode;
      words = c.self.inside.words.items;
      truths = c.self.inside.truths.items;
      assumptions = c.self.inside.assumptions.items;
      unsat_assumptions = c.self.inside.unsat_assumptions.items;
      table = c.self.inside.table;
      assertions = c.self.inside.assertions.items;
      levels = reverse c.self.inside.levels.items;
    } in
    left_state kept c.args.self.now c.leave.new.self c.truncate.new.self.items c.self.inside.levels.items
    c.pop.new.self.items c.in-Some.level c.self.view_is refl c.in-Some.ensures.items c.leave.ensures
    c.truncate.ensures.items

pub returns-in-Some-clause-leaves : goal.returns-in-Some-clause-leaves
returns-in-Some-clause-leaves c =
    let kept : Stacked = record {
      logic_set = c.self.inside.logic_set;
      begun = c.self.inside.begun;
      print_success = c.self.inside.print_success;
      produce_models = c.self.inside.produce_models;
      produce_unsat_assumptions = c.self.inside.produce_unsat_assumptions;
      scope = c.self.inside.scope;
      mode = c.self.inside.mode;
      words = c.self.inside.words.items;
      truths = c.self.inside.truths.items;
      assumptions = c.self.inside.assumptions.items;
      unsat_assumptions = c.self.inside.unsat_assumptions.items;
      table = c.self.inside.table;
      assertions = c.self.inside.assertions.items;
      levels = reverse c.self.inside.levels.items;
    } in
    let new : Stacked = record kept {
      mode = mode.Plain;
      scope = c.leave.new.self;
      assumptions = c.clear.new.self.items;
      assertions = c.truncate.new.self.items;
      levels = reverse c.pop.new.self.items;
    } in
    let same = ap (λ (s : ScopeNames). length s.sorts) c.leave.ensures in
    subst (λ (k : Stacked). Leaves k new) c.self.view_is
    (leaves_front kept new c.in-Some.level.assertions refl c.truncate.ensures.items refl (omega (arith, same)))
