use Rattle.std.proofs.Common.{reverse, true, ap, sym, subst, ◌∙◌}
use Rattle.std.proofs.lemmas.List.{length-reverse}
use Rattle.sb_script.specs.State.{with_assertion}
use Rattle.sb_term.specs.declared.assertion.Assertion.{Assertion}
use Rattle.sb_stack.specs.declared.stack.Mode.TheVariants as mode
use Rattle.sb_stack.specs.Stacked.{Stacked, state_of, assertion_of}
use Rattle.sb_stack.specs.Keeping.{StandsFor}
use Rattle.sb_stack.proofs.Changes.{kept_push, asserted_is, keeps_pushed}
use Rattle.sb_stack.proofs.Replying.{keeps_view}
use Rattle.sb_stack.proofs.Lefts.{stands_number, stands_speaks}
use Rattle.sb_stack.proofs.stack.Stack.add_assertion.Goals as goal

pub invariant_of-self-2 : goal.invariant_of-self-2
invariant_of-self-2 c =
    let kept : Stacked = record {
      logic_set = c.self.inside.logic_set;
      begun = c.self.inside.begun;
      print_success = c.self.inside.print_success;
      produce_models = c.self.inside.produce_models;
      produce_unsat_assumptions = c.self.inside.produce_unsat_assumptions;
      scope = c.self.inside.scope;
      mode = c.self.inside.mode;
      words = c.self.inside.words.items;
      truths = c.self.inside.truths.items;
      assumptions = c.self.inside.assumptions.items;
      unsat_assumptions = c.self.inside.unsat_assumptions.items;
      table = c.self.inside.table;
      assertions = c.self.inside.assertions.items;
      levels = reverse c.self.inside.levels.items;
    } in
    let a : Assertion = record { term = c.args.term; level = c.len-level.result } in
    let stands = subst (λ (k : Stacked). StandsFor k c.args.term) (sym c.self.view_is) c.requires in
    record {
      kept = kept_push c.self.inside.begun c.self.inside.scope c.self.inside.table c.self.inside.assertions.items
          c.push.new.self.items (reverse c.self.inside.levels.items) a c.in_ok-push.ensures.items c.self.invariant.kept
          (stands_number kept c.args.term stands)
          (c.len-level.ensures ∙ c.self.inside.levels.ok.0 ∙ sym (length-reverse c.self.inside.levels.items))
          (stands_speaks kept c.args.term stands);
      assumed = c.self.invariant.assumed;
    }

pub returns-clause-ok : goal.returns-clause-ok
returns-clause-ok c =
    let kept : Stacked = record {
      logic_set = c.self.inside.logic_set;
      begun = c.self.inside.begun;
      print_success = c.self.inside.print_success;
      produce_models = c.self.inside.produce_models;
      produce_unsat_assumptions = c.self.inside.produce_unsat_assumptions;
      scope = c.self.inside.scope;
      mode = c.self.inside.mode;
      words = c.self.inside.words.items;
      truths = c.self.inside.truths.items;
      assumptions = c.self.inside.assumptions.items;
      unsat_assumptions = c.self.inside.unsat_assumptions.items;
      table = c.self.inside.table;
      assertions = c.self.inside.assertions.items;
      levels = reverse c.self.inside.levels.items;
    } in
    let a : Assertion = record { term = c.args.term; level = c.len-level.result } in
    ap (λ bs. state_of (record kept { begun = true; mode = mode.Plain; assertions = bs })) c.in_ok-push.ensures.items
    ∙ asserted_is kept a c.self.invariant.kept
    ∙ ap (λ (k : Stacked). with_assertion (assertion_of k.table c.args.term) (state_of k)) c.self.view_is

pub returns-clause-keeps : goal.returns-clause-keeps
returns-clause-keeps c =
    let kept : Stacked = record {
      logic_set = c.self.inside.logic_set;
      begun = c.self.inside.begun;
      print_success = c.self.inside.print_success;
      produce_models = c.self.inside.produce_models;
      produce_unsat_assumptions = c.self.inside.produce_unsat_assumptions;
      scope = c.self.inside.scope;
      mode = c.self.inside.mode;
      words = c.self.inside.words.items;
      truths = c.self.inside.truths.items;
      assumptions = c.self.inside.assumptions.items;
      unsat_assumptions = c.self.inside.unsat_assumptions.items;
      table = c.self.inside.table;
      assertions = c.self.inside.assertions.items;
      levels = reverse c.self.inside.levels.items;
    } in
    let a : Assertion = record { term = c.args.term; level = c.len-level.result } in
    keeps_view kept c.args.self.now _ c.self.view_is (keeps_pushed kept c.push.new.self.items a c.in_ok-push.ensures.items)
