use Rattle.std.proofs.Common.{reverse, refl, ap, sym, subst, ◌∙◌}
use Rattle.sb_script.specs.Symbols.{is_taken}
use Rattle.sb_term.specs.Symbols.{sort_in}
use Rattle.sb_sorts.specs.Scopes.{ScopeNames, names_in}
use Rattle.sb_stack.specs.Keeping.{IsStacked}
use Rattle.sb_stack.specs.Stacked.{Stacked, state_of}
use Rattle.sb_stack.proofs.Changes.{keeps_same, kept_declared, declare_step, keeps_declared, declares_taken}
use Rattle.sb_stack.proofs.AssumedFacts.{assumed_named}
use Rattle.sb_stack.proofs.Replying.{says, unanswered, keeps_view}
use Rattle.sb_stack.proofs.stack.Stack.declare.Goals as goal

pub invariant_of-self : goal.invariant_of-self
invariant_of-self c = record {
  kept = kept_declared c.self.inside.begun c.self.inside.scope c.declare.new.self c.args.name.now c.args.sort
      c.self.inside.table c.self.inside.assertions.items (reverse c.self.inside.levels.items) c.requires
      c.in-Ok.ensures.ok.0 c.self.invariant.kept;
  assumed = assumed_named c.self.inside.scope.names c.declare.new.self.names _ c.self.inside.assumptions.items
      (ap (λ (s : ScopeNames). s.names) c.in-Ok.ensures.ok.0) c.self.invariant.assumed;
}

pub invariant_of-self-in-Err-AlreadyDeclared : goal.invariant_of-self-in-Err-AlreadyDeclared
invariant_of-self-in-Err-AlreadyDeclared c =
    subst (λ (s : ScopeNames). IsStacked c.self.inside.begun s c.self.inside.table c.self.inside.assertions.items
    (reverse c.self.inside.levels.items) c.self.inside.assumptions.items) (sym c.in-Err-AlreadyDeclared.ensures.err)
    c.self.invariant

pub returns-in_err-answer : goal.returns-in_err-answer
returns-in_err-answer c =
    let k = c.args.self.now in unanswered _ c.from_residual.result k k refl c.from_residual.ensures.0

pub returns-in-Ok : goal.returns-in-Ok
returns-in-Ok c =
    let kept : Stacked = record {
      logic_set = c.self.inside.logic_set;
      begun = c.self.inside.begun;
      print_success = c.self.inside.print_success;
      produce_models = c.self.inside.produce_models;
      produce_unsat_assumptions = c.self.inside.produce_unsat_assumptions;
      scope = c.self.inside.scope;
      mode = c.self.inside.mode;
      words = c.self.inside.words.items;
      truths = c.self.inside.truths.items;
      assumptions = c.self.inside.assumptions.items;
      unsat_assumptions = c.self.inside.unsat_assumptions.items;
      table = c.self.inside.table;
      assertions = c.self.inside.assertions.items;
      levels = reverse c.self.inside.levels.items;
    } in
    record {
      ok = rw (← c.self.view_is)
          (declare_step kept c.args.name.now c.args.sort c.declare.new.self c.in_ok-answer.answer c.self.invariant.kept
          (c.in-Ok.ensures.ok.1 c.self.inside.table) c.in-Ok.ensures.ok.0 c.in_ok-answer.ensures);
      err = tt;
      keeps = keeps_view kept c.args.self.now _ c.self.view_is
          (keeps_declared kept c.declare.new.self c.args.name.now c.args.sort c.in-Ok.ensures.ok.0);
    }

pub returns-in-Err-AlreadyDeclared : goal.returns-in-Err-AlreadyDeclared
returns-in-Err-AlreadyDeclared c =
    let kept : Stacked = record {
      logic_set = c.self.inside.logic_set;
      begun = c.self.inside.begun;
      print_success = c.self.inside.print_success;
      produce_models = c.self.inside.produce_models;
      produce_unsat_assumptions = c.self.inside.produce_unsat_assumptions;
      scope = c.self.inside.scope;
      mode = c.self.inside.mode;
      words = c.self.inside.words.items;
      truths = c.self.inside.truths.items;
      assumptions = c.self.inside.assumptions.items;
      unsat_assumptions = c.self.inside.unsat_assumptions.items;
      table = c.self.inside.table;
      assertions = c.self.inside.assertions.items;
      levels = reverse c.self.inside.levels.items;
    } in
    let e = c.in-Err-AlreadyDeclared.ensures in
    let k = c.args.self.now in
    let same = ap (λ (s : ScopeNames). record kept { scope = s }) e.err ∙ c.self.view_is in
    let taken = ap (λ (s : Stacked). is_taken (names_in s.table s.scope) c.args.name.now) (sym c.self.view_is)
    ∙ e.taken c.in-Err-AlreadyDeclared.field-0-is c.self.inside.table in
    says _ _ c.error_line_with_name.result k _ same (declares_taken k c.args.name.now (sort_in c.args.sort) taken)
    c.error_line_with_name.ensures

pub returns : goal.returns
returns c =
    let kept : Stacked = record {
      logic_set = c.self.inside.logic_set;
      begun = c.self.inside.begun;
      print_success = c.self.inside.print_success;
      produce_models = c.self.inside.produce_models;
      produce_unsat_assumptions = c.self.inside.produce_unsat_assumptions;
      scope = c.self.inside.scope;
      mode = c.self.inside.mode;
      words = c.self.inside.words.items;
      truths = c.self.inside.truths.items;
      assumptions = c.self.inside.assumptions.items;
      unsat_assumptions = c.self.inside.unsat_assumptions.items;
      table = c.self.inside.table;
      assertions = c.self.inside.assertions.items;
      levels = reverse c.self.inside.levels.items;
    } in
    let e = ap (λ (s : ScopeNames). record kept { scope = s }) c.in-Err-NoMemory.ensures.err ∙ c.self.view_is in
    record { ok = tt; err = ap state_of e; keeps = keeps_view _ _ _ e (keeps_same _) }
