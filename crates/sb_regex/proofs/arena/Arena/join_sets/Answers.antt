use Rattle.std.proofs.lemmas.Result.{IfOk-from_err}
use Rattle.sb_regex.proofs.Combining.{join_value, first_numbers}
use Rattle.sb_regex.proofs.CallerLemmas.{extends_same, numbers_kept}
use Rattle.sb_regex.proofs.arena.Arena.join_sets.Goals as goal

pub returns-clause-value : goal.returns-clause-value
returns-clause-value c =
    let good = rw (c.class.view_is) at c.class.invariant in
    let members = rw (c.in_ok-sets.ensures) at c.in_ok-class.ensures in
    join_value c.union_has_both.ensures c.union_is_canonical.ensures c.same_members.ensures c.args.self.now
    c.set.new.self c.args.members.now c.new-all.result.items c.push.new.self.items c.push_others.new.all.items
    c.in_ok-set.field-0 c.in_ok-class.class
    c.normal_regexes_each_once.ensures.normal c.requires c.in_ok-set.ensures.extends good members c.in_ok-set.ensures.ok
    c.new-all.ensures.items c.in_ok-push.ensures.items c.in_ok-push_others.ensures.value

pub returns-clause-numbers : goal.returns-clause-numbers
returns-clause-numbers c =
    c.in_ok-push_others.ensures.numbers
    (first_numbers c.set.new.self c.new-all.result.items c.push.new.self.items c.in_ok-set.field-0 _
    c.in_ok-set.ensures.ok c.new-all.ensures.items c.in_ok-push.ensures.items)

pub push_others-requires : goal.push_others-requires
push_others-requires c =
    numbers_kept c.args.self.now c.set.new.self c.args.members.now c.in_ok-set.ensures.extends c.requires

pub returns-clause-extends : goal.returns-clause-extends
returns-clause-extends c = c.set.ensures.extends

pub returns-in_err-sets : goal.returns-in_err-sets
returns-in_err-sets c =
    let x = c.from_residual in
    record {
      value = IfOk-from_err x.result _ x.ensures.0;
      numbers = IfOk-from_err x.result _ x.ensures.0;
      extends = extends_same c.args.self.now;
    }

pub returns-in_err-class : goal.returns-in_err-class
returns-in_err-class c =
    let x = c.from_residual-in_err-class in
    record {
      value = IfOk-from_err x.result _ x.ensures.0;
      numbers = IfOk-from_err x.result _ x.ensures.0;
      extends = extends_same c.args.self.now;
    }

pub returns-in_err-set : goal.returns-in_err-set
returns-in_err-set c =
    let x = c.from_residual-in_err-set in
    record {
      value = IfOk-from_err x.result _ x.ensures.0;
      numbers = IfOk-from_err x.result _ x.ensures.0;
      extends = c.set.ensures.extends;
    }

pub returns-in_err-push : goal.returns-in_err-push
returns-in_err-push c =
    let x = c.from_residual-in_err-push in
    record {
      value = IfOk-from_err x.result _ x.ensures.0;
      numbers = IfOk-from_err x.result _ x.ensures.0;
      extends = c.set.ensures.extends;
    }

pub returns-in_err-push_others : goal.returns-in_err-push_others
returns-in_err-push_others c =
    let x = c.from_residual-in_err-push_others in
    record {
      value = IfOk-from_err x.result _ x.ensures.0;
      numbers = IfOk-from_err x.result _ x.ensures.0;
      extends = c.set.ensures.extends;
    }
