use Rattle.std.proofs.Common.{◌≡◌, true, sym, subst}
use Rattle.std.proofs.lemmas.Result.{IfOk-from_err}
use Rattle.sb_lang.specs.Language.{language}
use Rattle.sb_regex.proofs.CallerLemmas.{at_kept, names_below, extends_more}
use Rattle.sb_graph.specs.Findings.{is_marked}
use Rattle.sb_graph.specs.Queue.{regex_of}
use Rattle.sb_graph.specs.Witness.{IsFinding}
use Rattle.sb_graph.proofs.Searching.{come_start, root_known}
use Rattle.sb_graph.proofs.graph.Graph.finish_within.Goals as goal

pub sweep-requires : goal.sweep-requires
sweep-requires c = record {
  graph = c.requires.graph;
  start = c.requires.start;
  within = c.requires.within;
}

pub returns-in_err-place : goal.returns-in_err-place
returns-in_err-place c =
    let x = c.from_residual in
    let s = c.in_err-place.ensures in
    record {
      found = IfOk-from_err x.result _ x.ensures.0;
      dead = IfOk-from_err x.result _ x.ensures.0;
      extends = s.extends;
      graph = s.graph;
      marks_stay = λ n h. subst (λ dead. is_marked dead n ≡ true) (sym s.marks) h;
      derivatives_stay = s.derivatives_stay;
      settles = IfOk-from_err x.result _ x.ensures.0;
    }

pub is_open-requires : goal.is_open-requires
is_open-requires c =
    let come = c.in_ok-place.ensures.come c.args.self.now.expanded
    (come_start c.args.arena.now c.args.root c.args.self.now.dead c.args.queue.now c.args.from c.args.self.now.expanded
    c.requires.start c.requires.within) in
    λ k l. names_below c.sweep.new.arena (regex_of c.sweep.new.queue k) _ (come.searched.reached.along k l)

pub returns-then-is_open : goal.returns-then-is_open
returns-then-is_open c =
    let s = c.in_ok-place.ensures in
    record {
      found = tt;
      dead = tt;
      extends = s.extends;
      graph = s.graph;
      marks_stay = λ n h. subst (λ dead. is_marked dead n ≡ true) (sym s.marks) h;
      derivatives_stay = s.derivatives_stay;
      settles = tt;
    }

pub finish-requires : goal.finish-requires
finish-requires c =
    let s = c.in_ok-place.ensures in
    let come = s.come c.args.self.now.expanded
    (come_start c.args.arena.now c.args.root c.args.self.now.dead c.args.queue.now c.args.from c.args.self.now.expanded
    c.requires.start c.requires.within) in
    record { graph = s.graph; start = come.searched; within = come.within }

pub returns-in_err-explored : goal.returns-in_err-explored
returns-in_err-explored c =
    let x = c.from_residual-in_err-explored in
    let s = c.in_ok-place.ensures in
    let f = c.in_err-explored.ensures in
    record {
      found = IfOk-from_err x.result _ x.ensures.0;
      dead = IfOk-from_err x.result _ x.ensures.0;
      extends = extends_more c.args.arena.now c.sweep.new.arena c.finish.new.arena s.extends f.extends;
      graph = f.graph;
      marks_stay = λ n h. f.marks_stay n (subst (λ dead. is_marked dead n ≡ true) (sym s.marks) h);
      derivatives_stay = λ n pieces h. f.derivatives_stay n pieces (s.derivatives_stay n pieces h);
      settles = IfOk-from_err x.result _ x.ensures.0;
    }

pub returns : goal.returns
returns c =
    let known = root_known c.args.arena.now c.args.root c.args.self.now.dead c.args.queue.now c.args.from c.requires.start
    in
    let s = c.in_ok-place.ensures in
    let f = c.in_ok-explored.ensures in
    record {
      found = subst (λ r. IsFinding (language r) c.in_ok-explored.explored)
          (at_kept c.args.arena.now c.sweep.new.arena c.args.root s.extends known) f.found;
      dead = f.dead;
      extends = extends_more c.args.arena.now c.sweep.new.arena c.finish.new.arena s.extends f.extends;
      graph = f.graph;
      marks_stay = λ n h. f.marks_stay n (subst (λ dead. is_marked dead n ≡ true) (sym s.marks) h);
      derivatives_stay = λ n pieces h. f.derivatives_stay n pieces (s.derivatives_stay n pieces h);
      settles = f.settles;
    }
