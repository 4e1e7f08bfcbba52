use Rattle.std.proofs.Common.{refl, arith}
use Rattle.std.proofs.lemmas.Result.{IfOk-from_err}
use Rattle.sb_regex.proofs.CallerLemmas.{extends_same}
use Rattle.sb_graph.proofs.Expanding.{goes_on_same}
use Rattle.sb_graph.proofs.Steps.{started}
use Rattle.sb_graph.proofs.Searching.{come_start}
use Rattle.sb_graph.proofs.graph.Graph.walk.Goals as goal

pub returns-in_err-queue : goal.returns-in_err-queue
returns-in_err-queue c =
    let x = c.from_residual in
    record {
      found = IfOk-from_err x.result _ x.ensures.0;
      dead = IfOk-from_err x.result _ x.ensures.0;
      extends = extends_same c.args.arena.now;
      graph = c.requires.graph;
      marks_stay = λ n h. h;
      derivatives_stay = λ n pieces h. h;
      expands = goes_on_same _ c.args.self.now.expanded c.args.self.now.expanded refl;
      idle = λ same. refl;
      settles = IfOk-from_err x.result _ x.ensures.0;
    }

pub finish-requires : goal.finish-requires
finish-requires c = record {
  graph = c.requires.graph;
  start = started c.args.arena.now c.args.self.now.dead c.in_ok-queue.queue c.args.root c.in_ok-queue.ensures
      c.requires.known;
  within = omega arith;
}

pub returns : goal.returns
returns c =
    let start = started c.args.arena.now c.args.self.now.dead c.in_ok-queue.queue c.args.root c.in_ok-queue.ensures
    c.requires.known in
    let f = c.finish.ensures in
    record {
      found = f.found;
      dead = f.dead;
      extends = f.extends;
      graph = f.graph;
      marks_stay = f.marks_stay;
      derivatives_stay = f.derivatives_stay;
      expands = f.expands c.args.self.now.expanded (come_start c.args.arena.now c.args.root c.args.self.now.dead
          c.in_ok-queue.queue 0 c.args.self.now.expanded start (omega arith));
      idle = f.idle;
      settles = f.settles;
    }
