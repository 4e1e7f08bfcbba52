use Rattle.std.proofs.Common.{◌≡◌, true, IfOk, sym, subst}
use Rattle.std.proofs.lemmas.Result.{IfOk-from_err, err_from_is_err_and}
use Rattle.sb_lang.specs.Language.{language}
use Rattle.sb_regex.proofs.CallerLemmas.{at_kept, number_kept, extends_more}
use Rattle.sb_graph.specs.Findings.{is_marked}
use Rattle.sb_graph.specs.Witness.{IsFinding, ComesBefore, GoesOn, IsReachedBy}
use Rattle.sb_graph.proofs.Expanding.{each_precedes, expanded_both}
use Rattle.sb_graph.proofs.Steps.{started}
use Rattle.sb_graph.proofs.Searching.{under_way_start}
use Rattle.sb_graph.proofs.graph.Graph.answer_from.Goals as goal

pub take_turns-requires : goal.take_turns-requires
take_turns-requires c = record {
  known = c.requires.known;
  graph = c.requires.graph;
  start = started c.args.arena.now c.args.self.now.dead c.args.queue.now c.args.root c.requires.start c.requires.known;
}

pub returns-in_err-place : goal.returns-in_err-place
returns-in_err-place c =
    let x = c.from_residual in
    let p = err_from_is_err_and x.result x.ensures.1 in
    let t = c.in_err-place.ensures in
    record {
      found = IfOk-from_err x.result _ x.ensures.0;
      dead = IfOk-from_err x.result _ x.ensures.0;
      extends = t.extends;
      graph = t.graph;
      marks_stay = λ n h. subst (λ dead. is_marked dead n ≡ true) (sym t.marks) h;
      derivatives_stay = t.derivatives_stay;
      expands = rw p.1 t.expands;
      settles = IfOk-from_err x.result _ x.ensures.0;
    }

pub finish-requires : goal.finish-requires
finish-requires c =
    let t = c.in_ok-place.ensures in
    record { graph = t.graph; start = t.come.searched; within = t.come.within }

pub returns-then-not-is_settled : goal.returns-then-not-is_settled
returns-then-not-is_settled c =
    let first = c.args.arena.now in
    let rs = c.take_turns.new.arena in
    let t = c.in_ok-place.ensures in
    let f = c.finish.ensures in
    let kept = at_kept first rs c.args.root t.extends c.requires.known in
    record {
      found = subst (λ r. IfOk c.finish.result (IsFinding (language r))) kept f.found;
      dead = f.dead;
      extends = extends_more first rs c.finish.new.arena t.extends f.extends;
      graph = f.graph;
      marks_stay = λ n h. f.marks_stay n (subst (λ dead. is_marked dead n ≡ true) (sym t.marks) h);
      derivatives_stay = λ n pieces h. f.derivatives_stay n pieces (t.derivatives_stay n pieces h);
      expands = subst (λ r. GoesOn (IsReachedBy c.finish.new.arena r (λ v. ComesBefore v c.finish.result))
          c.args.self.now.expanded c.finish.new.self.expanded) kept (f.expands c.args.self.now.expanded t.come);
      settles = f.settles;
    }

pub explore-requires : goal.explore-requires
explore-requires c =
    let t = c.in_ok-place.ensures in
    record {
      known = number_kept c.args.arena.now c.take_turns.new.arena c.args.root t.extends c.requires.known;
      graph = t.graph;
    }

pub returns : goal.returns
returns c =
    let first = c.args.arena.now in
    let rs = c.take_turns.new.arena in
    let t = c.in_ok-place.ensures in
    let e = c.explore.ensures in
    let u = under_way_start rs c.args.root c.take_turns.new.self.dead c.take_turns.new.queue c.in_ok-place.place
    c.args.self.now.expanded c.take_turns.new.self.expanded t.come in
    let before = each_precedes c.nullable_has_empty_word.ensures c.derivative_along_has_rests.ensures first rs t.extends
    c.args.root c.requires.known c.take_turns.new.self.dead c.take_turns.new.queue c.in_ok-place.place
    c.in_ok-place.place c.args.self.now.expanded c.take_turns.new.self.expanded t.graph.barren u in
    record {
      found = subst (λ r. IfOk c.explore.result (IsFinding (language r)))
          (at_kept first rs c.args.root t.extends c.requires.known) e.found;
      dead = e.dead;
      extends = extends_more first rs c.explore.new.arena t.extends e.extends;
      graph = e.graph;
      marks_stay = λ n h. e.marks_stay n (subst (λ dead. is_marked dead n ≡ true) (sym t.marks) h);
      derivatives_stay = λ n pieces h. e.derivatives_stay n pieces (t.derivatives_stay n pieces h);
      expands = expanded_both first rs c.explore.new.arena t.extends e.extends c.args.root c.requires.known
          c.explore.result e.found c.args.self.now.expanded c.take_turns.new.self.expanded c.explore.new.self.expanded
          before e.expands;
      settles = e.settles;
    }
