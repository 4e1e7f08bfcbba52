use Rattle.std.proofs.Common.{refl, ◌∙◌}
use Rattle.std.proofs.lemmas.Result.{IfOk-weaker, IfOk-from_err}
use Rattle.sb_term.proofs.TableFacts.{extended, table_added, named, all_added, extends_kept, all_kept}
use Rattle.sb_term.proofs.Marks.{marks_stay, marks_more}
use Rattle.sb_term.proofs.table.Table.add.Goals as goal

pub invariant_of-self : goal.invariant_of-self
invariant_of-self c = (c.self.invariant.0, c.in_err-reserve.ensures.items ∙ c.self.invariant.1)

pub returns-in_err-reserve : goal.returns-in_err-reserve
returns-in_err-reserve c =
    let keys = c.self.inside.nodes.keys in
    record {
      ok = IfOk-from_err c.from_residual.result _ c.from_residual.ensures.0;
      extends = extends_kept c.args.self.now keys keys c.self.view_is refl;
      only = λ test all new. all_kept c.args.self.now keys keys c.self.view_is refl test all;
    }

pub invariant_of-self-then-not-is_new : goal.invariant_of-self-then-not-is_new
invariant_of-self-then-not-is_new c =
    let old = c.self.inside.nodes.keys in
    let new = c.insert_full.new.self.keys in (
      table_added c.args.self.now old new c.args.term c.self.invariant.0 c.self.view_is c.requires.arguments
          c.requires.written c.in_ok-number.ensures.keys,
      marks_stay old new c.args.term c.self.inside.parametric.items c.reserve.new.self.items c.in_ok-number.is_new
          c.self.invariant.1 c.in_ok-number.ensures.keys c.in_ok-number.ensures.added c.if-not-is_new.true
          c.in_ok-reserve.ensures.items,
    )

pub returns-then-not-is_new : goal.returns-then-not-is_new
returns-then-not-is_new c =
    let ts = c.args.self.now in
    let old = c.self.inside.nodes.keys in
    let new = c.insert_full.new.self.keys in
    let n = named ts old new c.args.term c.in_ok-number.number c.self.invariant.0 c.self.view_is c.requires.arguments
    c.requires.written c.in_ok-number.ensures.keys c.in_ok-number.ensures.stored in
    record {
      ok = IfOk-weaker c.new.result _ _ (λ id is. rw is n) c.new.ensures;
      extends = extended ts old new c.args.term c.self.view_is c.in_ok-number.ensures.keys;
      only = all_added ts old new c.args.term c.self.view_is c.in_ok-number.ensures.keys;
    }

pub invariant_of-self-2 : goal.invariant_of-self-2
invariant_of-self-2 c =
    let ts = c.args.self.now in
    let old = c.self.inside.nodes.keys in
    let new = c.insert_full.new.self.keys in (
      table_added ts old new c.args.term c.self.invariant.0 c.self.view_is c.requires.arguments c.requires.written
          c.in_ok-number.ensures.keys,
      marks_more ts old new c.args.term c.self.inside.parametric.items c.reserve.new.self.items c.push.new.self.items
          c.has_parameters-mark.result c.in_ok-number.is_new c.self.invariant.1 c.self.view_is
          c.has_parameters-mark.ensures c.in_ok-number.ensures.keys c.in_ok-number.ensures.added c.if-not-is_new.false
          c.in_ok-reserve.ensures.items c.in_ok-push.ensures.items,
    )

pub returns : goal.returns
returns c =
    let ts = c.args.self.now in
    let old = c.self.inside.nodes.keys in
    let new = c.insert_full.new.self.keys in
    let n = named ts old new c.args.term c.in_ok-number.number c.self.invariant.0 c.self.view_is c.requires.arguments
    c.requires.written c.in_ok-number.ensures.keys c.in_ok-number.ensures.stored in
    record {
      ok = IfOk-weaker c.new-2.result _ _ (λ id is. rw is n) c.new-2.ensures;
      extends = extended ts old new c.args.term c.self.view_is c.in_ok-number.ensures.keys;
      only = all_added ts old new c.args.term c.self.view_is c.in_ok-number.ensures.keys;
    }
