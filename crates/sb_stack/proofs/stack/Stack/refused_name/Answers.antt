use Rattle.std.proofs.Common.{Some, option_copied, if◌then◌else◌, reverse, ap, sym, ◌∙◌}
use Rattle.sb_script.specs.State.{names_of}
use Rattle.sb_script.specs.Symbols.{is_taken}
use Rattle.sb_stack.specs.Stacked.{Stacked, state_of}
use Rattle.sb_stack.proofs.Changes.{taken_live}
use Rattle.sb_stack.proofs.stack.Stack.refused_name.Goals as goal

pub returns-then-is_taken : goal.returns-then-is_taken
returns-then-is_taken c =
    let kept : Stacked = record {
      logic_set = c.self.inside.logic_set;
      begun = c.self.inside.begun;
      print_success = c.self.inside.print_success;
      produce_models = c.self.inside.produce_models;
      produce_unsat_assumptions = c.self.inside.produce_unsat_assumptions;
      scope = c.self.inside.scope;
      mode = c.self.inside.mode;
      words = c.self.inside.words.items;
      truths = c.self.inside.truths.items;
      assumptions = c.self.inside.assumptions.items;
      unsat_assumptions = c.self.inside.unsat_assumptions.items;
      table = c.self.inside.table;
      assertions = c.self.inside.assertions.items;
      levels = reverse c.self.inside.levels.items;
    } in
    let name = c.args.name.now in
    let taken = ap (λ (k : Stacked). is_taken (names_of (state_of k)) name) (sym c.self.view_is) ∙ taken_live kept name
    ∙ sym (c.is_taken.ensures c.self.inside.table) ∙ c.if-is_taken.true in
    ap (λ b. if b then Some name else option_copied c.args.again) (sym taken)

pub returns-else-is_taken : goal.returns-else-is_taken
returns-else-is_taken c =
    let kept : Stacked = record {
      logic_set = c.self.inside.logic_set;
      begun = c.self.inside.begun;
      print_success = c.self.inside.print_success;
      produce_models = c.self.inside.produce_models;
      produce_unsat_assumptions = c.self.inside.produce_unsat_assumptions;
      scope = c.self.inside.scope;
      mode = c.self.inside.mode;
      words = c.self.inside.words.items;
      truths = c.self.inside.truths.items;
      assumptions = c.self.inside.assumptions.items;
      unsat_assumptions = c.self.inside.unsat_assumptions.items;
      table = c.self.inside.table;
      assertions = c.self.inside.assertions.items;
      levels = reverse c.self.inside.levels.items;
    } in
    let name = c.args.name.now in
    let taken = ap (λ (k : Stacked). is_taken (names_of (state_of k)) name) (sym c.self.view_is) ∙ taken_live kept name
    ∙ sym (c.is_taken.ensures c.self.inside.table) ∙ c.if-is_taken.false in
    ap (λ b. if b then Some name else option_copied c.args.again) (sym taken)
