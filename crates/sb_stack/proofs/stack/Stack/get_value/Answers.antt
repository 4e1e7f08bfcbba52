use Rattle.std.proofs.Common.{◌≡◌, true, reverse, map, sym, ◌∙◌, ap, subst}
use Rattle.sb_stack.specs.Stacked.{Stacked, state_of}
use Rattle.sb_stack.specs.Commands.{forms_in}
use Rattle.sb_stack.specs.Taking.{asks}
use Rattle.std.specs.List.{list_all}
use Rattle.sb_sorts.specs.Scopes.{constants_among}
use Rattle.sb_stack.specs.Values.{item_in, with_names, is_live_item}
use Rattle.sb_stack.proofs.ByWords.{forms_live}
use Rattle.sb_stack.proofs.Changes.{same_step, names_live}
use Rattle.sb_script.specs.Replies.{item_of}
use Rattle.sb_script.specs.State.{names_of}
use Rattle.sb_stack.proofs.stack.Stack.get_value.Goals as goal

pub returns : goal.returns
returns c =
    let kept : Stacked = record {
      logic_set = c.self.inside.logic_set;
      begun = c.self.inside.begun;
      print_success = c.self.inside.print_success;
      produce_models = c.self.inside.produce_models;
      produce_unsat_assumptions = c.self.inside.produce_unsat_assumptions;
      scope = c.self.inside.scope;
      mode = c.self.inside.mode;
      words = c.self.inside.words.items;
      truths = c.self.inside.truths.items;
      assumptions = c.self.inside.assumptions.items;
      unsat_assumptions = c.self.inside.unsat_assumptions.items;
      table = c.self.inside.table;
      assertions = c.self.inside.assertions.items;
      levels = reverse c.self.inside.levels.items;
    } in
    let s = state_of c.args.self.now in
    let names = sym (names_live kept) ∙ ap (λ (k : Stacked). names_of (state_of k)) c.self.view_is in
    let there = ap (λ ns. map (item_of (with_names ns)) (forms_in c.args.forms)) names in
    let items = ap (map item_in) c.deref.ensures.value ∙ c.in_ok-items.ensures c.self.inside.table ∙ there in
    same_step c.answer_items.result _ _ s c.answer_items.ensures (ap (λ q. asks q s) (sym items))

pub answer_items-requires : goal.answer_items-requires
answer_items-requires c =
    let names = c.self.inside.scope.names in
    subst (λ (k : Stacked). list_all (is_live_item (constants_among k.scope.names)) (map item_in c.deref.result.now) ≡ true)
    c.self.view_is
    (ap (list_all (is_live_item (constants_among names))) (ap (map item_in) c.deref.ensures.value ∙ c.in_ok-items.ensures c.self.inside.table)
    ∙ forms_live c.self.inside.table c.declared-declared.result names (forms_in c.args.forms) c.declared-declared.ensures.serials)
