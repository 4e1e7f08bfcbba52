use Rattle.std.proofs.Common.{◌≡◌, true, IfOk, sym, subst}
use Rattle.std.proofs.lemmas.Result.{IfOk-from_err}
use Rattle.sb_lang.specs.Language.{language}
use Rattle.sb_regex.proofs.CallerLemmas.{at_kept, number_kept, extends_more}
use Rattle.sb_graph.specs.Findings.{is_marked}
use Rattle.sb_graph.specs.Witness.{IsFinding, IfFound}
use Rattle.sb_graph.proofs.Steps.{started}
use Rattle.sb_graph.proofs.graph.Graph.answer_from_within.Goals as goal

pub take_turns-requires : goal.take_turns-requires
take_turns-requires c = record {
  known = c.requires.known;
  graph = c.requires.graph;
  start = started c.args.arena.now c.args.self.now.dead c.args.queue.now c.args.root c.requires.start c.requires.known;
}

pub returns-in_err-place : goal.returns-in_err-place
returns-in_err-place c =
    let x = c.from_residual in
    let t = c.in_err-place.ensures in
    record {
      found = IfOk-from_err x.result _ x.ensures.0;
      dead = IfOk-from_err x.result _ x.ensures.0;
      extends = t.extends;
      graph = t.graph;
      marks_stay = λ n h. subst (λ dead. is_marked dead n ≡ true) (sym t.marks) h;
      derivatives_stay = t.derivatives_stay;
      settles = IfOk-from_err x.result _ x.ensures.0;
    }

pub explore-requires : goal.explore-requires
explore-requires c =
    let t = c.in_ok-place.ensures in
    record {
      known = number_kept c.args.arena.now c.take_turns.new.arena c.args.root t.extends c.requires.known;
      graph = t.graph;
    }

pub returns-in_err-explored : goal.returns-in_err-explored
returns-in_err-explored c =
    let x = c.from_residual-in_err-explored in
    let t = c.in_ok-place.ensures in
    let e = c.in_err-explored.ensures in
    record {
      found = IfOk-from_err x.result _ x.ensures.0;
      dead = IfOk-from_err x.result _ x.ensures.0;
      extends = extends_more c.args.arena.now c.take_turns.new.arena c.explore.new.arena t.extends e.extends;
      graph = e.graph;
      marks_stay = λ n h. e.marks_stay n (subst (λ dead. is_marked dead n ≡ true) (sym t.marks) h);
      derivatives_stay = λ n pieces h. e.derivatives_stay n pieces (t.derivatives_stay n pieces h);
      settles = IfOk-from_err x.result _ x.ensures.0;
    }

pub returns-then-is_settled : goal.returns-then-is_settled
returns-then-is_settled c =
    let first = c.args.arena.now in
    let rs = c.take_turns.new.arena in
    let t = c.in_ok-place.ensures in
    let e = c.in_ok-explored.ensures in
    record {
      found = subst (λ r. IsFinding (language r) c.in_ok-explored.explored)
          (at_kept first rs c.args.root t.extends c.requires.known) e.found;
      dead = e.dead;
      extends = extends_more first rs c.explore.new.arena t.extends e.extends;
      graph = e.graph;
      marks_stay = λ n h. e.marks_stay n (subst (λ dead. is_marked dead n ≡ true) (sym t.marks) h);
      derivatives_stay = λ n pieces h. e.derivatives_stay n pieces (t.derivatives_stay n pieces h);
      settles = e.settles;
    }

pub finish_within-requires : goal.finish_within-requires
finish_within-requires c =
    let t = c.in_ok-place.ensures in
    record { graph = t.graph; start = t.come.searched; within = t.come.within }

pub returns : goal.returns
returns c =
    let first = c.args.arena.now in
    let rs = c.take_turns.new.arena in
    let t = c.in_ok-place.ensures in
    let f = c.finish_within.ensures in
    record {
      found = subst (λ r. IfOk c.finish_within.result (λ w. IfFound w (IsFinding (language r))))
          (at_kept first rs c.args.root t.extends c.requires.known) f.found;
      dead = f.dead;
      extends = extends_more first rs c.finish_within.new.arena t.extends f.extends;
      graph = f.graph;
      marks_stay = λ n h. f.marks_stay n (subst (λ dead. is_marked dead n ≡ true) (sym t.marks) h);
      derivatives_stay = λ n pieces h. f.derivatives_stay n pieces (t.derivatives_stay n pieces h);
      settles = f.settles;
    }
