use Rattle.std.proofs.Common.{IfOk, subst}
use Rattle.std.proofs.lemmas.Result.{IfOk-from_err}
use Rattle.sb_lang.specs.Language.{language}
use Rattle.sb_regex.specs.Numbered.{regex_at}
use Rattle.sb_regex.proofs.CallerLemmas.{at_kept, number_kept, extends_more}
use Rattle.sb_graph.specs.Witness.{IsFinding, IfFound}
use Rattle.sb_graph.proofs.graph.Graph.least_word.Goals as goal

pub answer_within-requires : goal.answer_within-requires
answer_within-requires c = record { known = c.requires.known; graph = c.requires.graph }

pub returns-in_err-explored : goal.returns-in_err-explored
returns-in_err-explored c =
    let a = c.answer_within.ensures in
    record {
      found = IfOk-from_err c.from_residual.result _ c.from_residual.ensures.0;
      extends = a.extends;
      graph = a.graph;
      marks_stay = a.marks_stay;
      derivatives_stay = a.derivatives_stay;
    }

pub returns-in-Found : goal.returns-in-Found
returns-in-Found c =
    let a = c.answer_within.ensures in
    record {
      found = subst (λ w. IfFound w (IsFinding (language (regex_at c.args.arena.now c.args.root)))) c.in-Found.is
          c.in_ok-explored.ensures.found;
      extends = a.extends;
      graph = a.graph;
      marks_stay = a.marks_stay;
      derivatives_stay = a.derivatives_stay;
    }

pub word_by_members-requires : goal.word_by_members-requires
word_by_members-requires c =
    let a = c.answer_within.ensures in
    record {
      known = number_kept c.args.arena.now c.answer_within.new.arena c.args.root a.extends c.requires.known;
      graph = a.graph;
    }

pub returns-in-Limit : goal.returns-in-Limit
returns-in-Limit c =
    let first = c.args.arena.now in
    let rs = c.answer_within.new.arena in
    let a = c.answer_within.ensures in
    let w = c.word_by_members.ensures in
    record {
      found = subst (λ r. IfOk c.word_by_members.result (IsFinding (language r)))
          (at_kept first rs c.args.root a.extends c.requires.known) w.found;
      extends = extends_more first rs c.word_by_members.new.arena a.extends w.extends;
      graph = w.graph;
      marks_stay = λ n h. w.marks_stay n (a.marks_stay n h);
      derivatives_stay = λ n pieces h. w.derivatives_stay n pieces (a.derivatives_stay n pieces h);
    }
