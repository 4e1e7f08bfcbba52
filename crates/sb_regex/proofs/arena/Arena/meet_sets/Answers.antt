use Rattle.std.proofs.lemmas.Result.{IfOk-from_err}
use Rattle.sb_regex.proofs.Combining.{meet_all}
use Rattle.sb_regex.proofs.CallerLemmas.{numbers_kept}
use Rattle.sb_regex.proofs.arena.Arena.meet_sets.Goals as goal

pub returns-clause-value : goal.returns-clause-value
returns-clause-value c =
    meet_all c.args.self.now c.meet_of.new.self c.args.members.now c.in_ok-all.all.items c.push_others.new.all.items
    c.requires c.in_ok-all.ensures.extends c.in_ok-all.ensures.value c.in_ok-push_others.ensures.value

pub push_others-requires : goal.push_others-requires
push_others-requires c =
    numbers_kept c.args.self.now c.meet_of.new.self c.args.members.now c.meet_of.ensures.extends c.requires

pub returns-clause-numbers : goal.returns-clause-numbers
returns-clause-numbers c = c.in_ok-push_others.ensures.numbers c.in_ok-all.ensures.numbers

pub returns-clause-extends : goal.returns-clause-extends
returns-clause-extends c = c.meet_of.ensures.extends

pub returns-in_err-push_others : goal.returns-in_err-push_others
returns-in_err-push_others c =
    let x = c.from_residual-in_err-push_others in
    record {
      value = IfOk-from_err x.result _ x.ensures.0;
      numbers = IfOk-from_err x.result _ x.ensures.0;
      extends = c.meet_of.ensures.extends;
    }
