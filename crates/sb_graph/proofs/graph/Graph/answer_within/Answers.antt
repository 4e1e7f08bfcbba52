use Rattle.std.proofs.Common.{refl, sym, ◌∙◌}
use Rattle.std.proofs.lemmas.Bool.{false≢true}
use Rattle.std.proofs.lemmas.Result.{IfOk-from_err}
use Rattle.sb_regex.proofs.CallerLemmas.{extends_same}
use Rattle.sb_graph.proofs.graph.Graph.answer_within.Goals as goal

pub explore-requires : goal.explore-requires
explore-requires c = record { known = c.requires.known; graph = c.requires.graph }

pub returns-in_err-explored : goal.returns-in_err-explored
returns-in_err-explored c =
    let x = c.from_residual in
    let e = c.in_err-explored.ensures in
    record {
      found = IfOk-from_err x.result _ x.ensures.0;
      dead = IfOk-from_err x.result _ x.ensures.0;
      extends = e.extends;
      graph = e.graph;
      marks_stay = e.marks_stay;
      derivatives_stay = e.derivatives_stay;
      settles = IfOk-from_err x.result _ x.ensures.0;
      settled = e.settled;
    }

pub returns-then-is_settled : goal.returns-then-is_settled
returns-then-is_settled c =
    let e = c.in_ok-explored.ensures in
    record {
      found = e.found;
      dead = e.dead;
      extends = e.extends;
      graph = e.graph;
      marks_stay = e.marks_stay;
      derivatives_stay = e.derivatives_stay;
      settles = e.settles;
      settled = e.settled;
    }

pub returns-in_err-queue : goal.returns-in_err-queue
returns-in_err-queue c =
    let x = c.from_residual-in_err-queue in
    record {
      found = IfOk-from_err x.result _ x.ensures.0;
      dead = IfOk-from_err x.result _ x.ensures.0;
      extends = extends_same c.args.arena.now;
      graph = c.requires.graph;
      marks_stay = λ n h. h;
      derivatives_stay = λ n pieces h. h;
      settles = IfOk-from_err x.result _ x.ensures.0;
      settled = λ s. refl;
    }

pub answer_from_within-requires : goal.answer_from_within-requires
answer_from_within-requires c = record {
  known = c.requires.known;
  graph = c.requires.graph;
  start = c.in_ok-queue.ensures;
}

pub returns : goal.returns
returns c =
    let e = c.answer_from_within.ensures in
    record {
      found = e.found;
      dead = e.dead;
      extends = e.extends;
      graph = e.graph;
      marks_stay = e.marks_stay;
      derivatives_stay = e.derivatives_stay;
      settles = e.settles;
      settled = λ s. absurd (false≢true (sym c.if-is_settled.false ∙ c.is_settled.ensures ∙ s));
    }
