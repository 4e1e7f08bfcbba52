use Rattle.std.proofs.Common.{◌≡◌, true, reverse, map, sym, ap, subst, ◌∙◌}
use Rattle.std.specs.List.{list_all}
use Rattle.sb_script.specs.State.{names_of}
use Rattle.sb_script.specs.Steps.{checks}
use Rattle.sb_script.specs.Replies.{assumed_form, errors_in, assumptions_in, unless_error}
use Rattle.sb_sorts.specs.Scopes.{constants_among}
use Rattle.sb_stack.specs.Assumptions.{assumed_in, is_live_assumed}
use Rattle.sb_stack.specs.Commands.{forms_in}
use Rattle.sb_stack.specs.Stacked.{Stacked, state_of}
use Rattle.sb_stack.specs.Values.{with_names}
use Rattle.sb_stack.proofs.AssumedFacts.{assumes_is, assumed_forms_live}
use Rattle.sb_stack.proofs.Changes.{names_live}
use Rattle.sb_stack.proofs.Replying.{takes_as, takes_failed}
use Rattle.sb_stack.proofs.stack.Stack.check_assuming.Goals as goal

pub returns-in_err-items : goal.returns-in_err-items
returns-in_err-items c = takes_failed _ c.from_residual.result c.args.self.now c.from_residual.ensures.0

pub assume-requires : goal.assume-requires
assume-requires c =
    let names = c.self.inside.scope.names in
    let table = c.self.inside.table in
    subst (λ (k : Stacked).
    list_all (is_live_assumed (constants_among k.scope.names)) (map assumed_in c.deref.result.now) ≡ true)
    c.self.view_is
    (ap (list_all (is_live_assumed (constants_among names)))
    (ap (map assumed_in) c.deref.ensures.value ∙ c.in_ok-items.ensures table)
    ∙ assumed_forms_live table c.declared-declared.result names c.declared-declared.ensures.serials
    (forms_in c.args.forms))

pub returns : goal.returns
returns c =
    let kept : Stacked = record {
      logic_set = c.self.inside.logic_set;
      begun = c.self.inside.begun;
      print_success = c.self.inside.print_success;
      produce_models = c.self.inside.produce_models;
      produce_unsat_assumptions = c.self.inside.produce_unsat_assumptions;
      scope = c.self.inside.scope;
      mode = c.self.inside.mode;
      words = c.self.inside.words.items;
      truths = c.self.inside.truths.items;
      assumptions = c.self.inside.assumptions.items;
      unsat_assumptions = c.self.inside.unsat_assumptions.items;
      table = c.self.inside.table;
      assertions = c.self.inside.assertions.items;
      levels = reverse c.self.inside.levels.items;
    } in
    let k = c.args.self.now in
    let s = state_of k in
    let names = sym (names_live kept) ∙ ap (λ (k : Stacked). names_of (state_of k)) c.self.view_is in
    let there = ap (λ ns. map (assumed_form (with_names ns)) (forms_in c.args.forms)) names in
    let items = ap (map assumed_in) c.deref.ensures.value ∙ c.in_ok-items.ensures c.self.inside.table ∙ there in
    takes_as _ _ c.assume.result k c.assume.new.self
    (ap (λ xs. unless_error (errors_in xs) (checks (assumptions_in xs)) s) (sym items)
    ∙ assumes_is c.deref.result.now s) c.assume.ensures
