use Rattle.std.proofs.Common.{◌≡◌, true, IfOk, sym, subst}
use Rattle.std.proofs.lemmas.Result.{IfOk-from_err}
use Rattle.sb_lang.specs.Language.{language}
use Rattle.sb_regex.specs.Numbered.{regex_at}
use Rattle.sb_regex.proofs.CallerLemmas.{at_kept, number_kept, extends_more}
use Rattle.sb_graph.specs.Findings.{is_marked}
use Rattle.sb_graph.specs.Members.{IsOutcome}
use Rattle.sb_graph.specs.Witness.{IsFinding}
use Rattle.sb_graph.proofs.graph.Graph.word_by_members.Goals as goal

pub outcome_by_members-requires : goal.outcome_by_members-requires
outcome_by_members-requires c = record { known = c.requires.known; graph = c.requires.graph }

pub returns-in_err-outcome : goal.returns-in_err-outcome
returns-in_err-outcome c =
    let o = c.in_err-outcome.ensures in
    record {
      found = IfOk-from_err c.from_residual.result _ c.from_residual.ensures.0;
      extends = o.extends;
      graph = o.graph;
      marks_stay = λ n h. subst (λ dead. is_marked dead n ≡ true) (sym o.marks) h;
      derivatives_stay = o.derivatives_stay;
    }

pub returns-in-Empty : goal.returns-in-Empty
returns-in-Empty c =
    let o = c.in_ok-outcome.ensures in
    record {
      found = subst (IsOutcome (language (regex_at c.args.arena.now c.args.root))) c.in-Empty.is o.found;
      extends = o.extends;
      graph = o.graph;
      marks_stay = λ n h. subst (λ dead. is_marked dead n ≡ true) (sym o.marks) h;
      derivatives_stay = o.derivatives_stay;
    }

pub answer-requires : goal.answer-requires
answer-requires c =
    let o = c.in_ok-outcome.ensures in
    record {
      known = number_kept c.args.arena.now c.outcome_by_members.new.arena c.args.root o.extends c.requires.known;
      graph = o.graph;
    }

pub returns : goal.returns
returns c =
    let first = c.args.arena.now in
    let rs = c.outcome_by_members.new.arena in
    let o = c.in_ok-outcome.ensures in
    let a = c.answer.ensures in
    record {
      found = subst (λ r. IfOk c.answer.result (IsFinding (language r)))
          (at_kept first rs c.args.root o.extends c.requires.known) a.found;
      extends = extends_more first rs c.answer.new.arena o.extends a.extends;
      graph = a.graph;
      marks_stay = λ n h. a.marks_stay n (subst (λ dead. is_marked dead n ≡ true) (sym o.marks) h);
      derivatives_stay = λ n pieces h. a.derivatives_stay n pieces (o.derivatives_stay n pieces h);
    }
