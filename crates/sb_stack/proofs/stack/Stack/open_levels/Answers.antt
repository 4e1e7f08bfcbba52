use Rattle.std.proofs.Common.{reverse, ap, ◌∙◌}
use Rattle.sb_script.specs.State.{pushed}
use Rattle.sb_stack.specs.declared.level.Level.{Level}
use Rattle.sb_stack.specs.declared.stack.Mode.TheVariants as mode
use Rattle.sb_stack.specs.Stacked.{Stacked, state_of}
use Rattle.sb_stack.proofs.Changes.{kept_opened, opened_is, keeps_opened}
use Rattle.sb_stack.proofs.Replying.{keeps_view}
use Rattle.sb_stack.proofs.stack.Stack.open_levels.Goals as goal

pub invariant_of-self-2 : goal.invariant_of-self-2
invariant_of-self-2 c =
    let l : Level = record { names = c.len-names.result; assertions = c.len-assertions.result } in
    record {
      kept = kept_opened c.self.inside.begun c.self.inside.scope c.self.inside.table c.self.inside.assertions.items
          (reverse c.self.inside.levels.items) (reverse c.push_levels.new.levels.items) c.args.count l
          c.len-names.ensures (c.len-assertions.ensures ∙ c.self.inside.assertions.ok.0)
          c.in_ok-push_levels.ensures.ok c.self.invariant.kept;
      assumed = c.self.invariant.assumed;
    }

pub returns-clause-ok : goal.returns-clause-ok
returns-clause-ok c =
    let kept : Stacked = record {
      logic_set = c.self.inside.logic_set;
      begun = c.self.inside.begun;
      print_success = c.self.inside.print_success;
      produce_models = c.self.inside.produce_models;
      produce_unsat_assumptions = c.self.inside.produce_unsat_assumptions;
      scope = c.self.inside.scope;
      mode = c.self.inside.mode;
      words = c.self.inside.words.items;
      truths = c.self.inside.truths.items;
      assumptions = c.self.inside.assumptions.items;
      unsat_assumptions = c.self.inside.unsat_assumptions.items;
      table = c.self.inside.table;
      assertions = c.self.inside.assertions.items;
      levels = reverse c.self.inside.levels.items;
    } in
    let l : Level = record { names = c.len-names.result; assertions = c.len-assertions.result } in
    ap (λ ls. state_of (record kept { mode = mode.Plain; levels = ls })) c.in_ok-push_levels.ensures.ok
    ∙ opened_is kept c.args.count l c.len-names.ensures (c.len-assertions.ensures ∙ c.self.inside.assertions.ok.0)
    ∙ ap (λ (k : Stacked). pushed c.args.count (state_of k)) c.self.view_is

pub returns-clause-keeps : goal.returns-clause-keeps
returns-clause-keeps c =
    let kept : Stacked = record {
      logic_set = c.self.inside.logic_set;
      begun = c.self.inside.begun;
      print_success = c.self.inside.print_success;
      produce_models = c.self.inside.produce_models;
      produce_unsat_assumptions = c.self.inside.produce_unsat_assumptions;
      scope = c.self.inside.scope;
      mode = c.self.inside.mode;
      words = c.self.inside.words.items;
      truths = c.self.inside.truths.items;
      assumptions = c.self.inside.assumptions.items;
      unsat_assumptions = c.self.inside.unsat_assumptions.items;
      table = c.self.inside.table;
      assertions = c.self.inside.assertions.items;
      levels = reverse c.self.inside.levels.items;
    } in
    keeps_view kept c.args.self.now _ c.self.view_is (keeps_opened kept (reverse c.push_levels.new.levels.items))
