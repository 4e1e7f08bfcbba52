use Rattle.std.proofs.Common.{Bool, Option, Some, None, if◌then◌else◌, reverse, refl, sym, ap, ap₂, ◌∙◌}
use Rattle.sb_script.specs.Errors.{bad_option_value, option_too_late}
use Rattle.sb_script.specs.Options.{truth_in}
use Rattle.sb_script.specs.State.{State}
use Rattle.sb_script.specs.Steps.{Step, fails_by, succeeds, success}
use Rattle.sb_reader.specs.Forms.{shape_of}
use Rattle.sb_sorts.specs.Scopes.{ScopeNames, constants_among}
use Rattle.sb_stack.specs.Speaking.{are_assumed}
use Rattle.sb_stack.specs.Stacked.{Stacked, state_of}
use Rattle.sb_stack.specs.Taking.{with_global_declarations}
use Rattle.sb_stack.proofs.Changes.{kept_global, global_is, keeps_global}
use Rattle.sb_stack.proofs.Replying.{says, unanswered, said_and_done, keeps_view}
use Rattle.sb_stack.proofs.stack.Stack.set_global_declarations.Goals as goal

-- what becomes of a value, where it is in time, and where it is a truth value
abbrev by_truth : State → Option Bool → Step
by_truth s (Some b) = succeeds (with_global_declarations s b)
by_truth s None = fails_by bad_option_value s

abbrev by_tests : State → Bool → Option Bool → Step
by_tests s begun o = if begun then fails_by option_too_late s else by_truth s o

pub returns-then-self : goal.returns-then-self
returns-then-self c =
    let k = c.args.self.now in
    says _ _ c.error_line.result k k refl
    (ap (λ b. by_tests (state_of k) b (truth_in (shape_of c.args.value)))
    (ap (λ (k : Stacked). k.begun) (sym c.self.view_is) ∙ c.if-self.true)) c.error_line.ensures

pub returns-in_default : goal.returns-in_default
returns-in_default c =
    let k = c.args.self.now in
    says _ _ c.error_line-in_default.result k k refl
    (ap₂ (by_tests (state_of k)) (ap (λ (k : Stacked). k.begun) (sym c.self.view_is) ∙ c.if-self.false)
    (sym c.in_default.ensures)) c.error_line-in_default.ensures

pub returns-in_err-answer : goal.returns-in_err-answer
returns-in_err-answer c =
    let k = c.args.self.now in unanswered _ c.from_residual.result k k refl c.from_residual.ensures.0

pub set_global-requires : goal.set_global-requires
set_global-requires c = c.self.invariant.kept.fresh c.if-self.false

pub invariant_of-self : goal.invariant_of-self
invariant_of-self c = record {
  kept = kept_global c.self.inside.begun c.in-Some.global c.self.inside.scope c.set_global.new.self c.self.inside.table
      c.self.inside.assertions.items (reverse c.self.inside.levels.items) (c.self.invariant.kept.fresh c.if-self.false)
      c.set_global.ensures c.self.invariant.kept;
  assumed = ap (λ (s : ScopeNames). are_assumed (constants_among s.names) c.self.inside.assumptions.items)
      c.set_global.ensures
      ∙ c.self.invariant.assumed;
}

pub returns : goal.returns
returns c =
    let kept : Stacked = record {
      logic_set = c.self.inside.logic_set;
      begun = c.self.inside.begun;
      print_success = c.self.inside.print_success;
      produce_models = c.self.inside.produce_models;
      produce_unsat_assumptions = c.self.inside.produce_unsat_assumptions;
      scope = c.self.inside.scope;
      mode = c.self.inside.mode;
      words = c.self.inside.words.items;
      truths = c.self.inside.truths.items;
      assumptions = c.self.inside.assumptions.items;
      unsat_assumptions = c.self.inside.unsat_assumptions.items;
      table = c.self.inside.table;
      assertions = c.self.inside.assertions.items;
      levels = reverse c.self.inside.levels.items;
    } in
    let k = c.args.self.now in
    said_and_done _ _ c.in_ok-answer.answer k _ (with_global_declarations (state_of k) c.in-Some.global)
    (ap₂ (by_tests (state_of k)) (ap (λ (k : Stacked). k.begun) (sym c.self.view_is) ∙ c.if-self.false)
    (sym c.in-Some.ensures))
    (c.in_ok-answer.ensures ∙ ap (λ (k : Stacked). success (state_of k)) c.self.view_is)
    (global_is kept c.in-Some.global c.set_global.new.self (c.self.invariant.kept.fresh c.if-self.false)
    c.set_global.ensures
    ∙ ap (λ (k : Stacked). with_global_declarations (state_of k) c.in-Some.global) c.self.view_is)
    (keeps_view kept k _ c.self.view_is (keeps_global kept c.set_global.new.self c.in-Some.global c.set_global.ensures))
