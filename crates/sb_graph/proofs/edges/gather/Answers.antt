use Rattle.std.proofs.lemmas.Result.{IfOk-from_err}
use Rattle.sb_regex.proofs.CallerLemmas.{extends_more, extends_same, number_in, number_kept, numbers_kept}
use Rattle.sb_graph.proofs.Fronts.{gathering_start, gathering_next, gathering_done}
use Rattle.sb_graph.proofs.edges.gather.Goals as goal

pub loop-start-init : goal.loop-start-init
loop-start-init c = record {
  extends = extends_same c.args.arena.now;
  faithful = c.requires.faithful;
  kept = λ n pieces h. h;
  gathered = gathering_start c.args.arena.now c.args.starts.now c.new-edges.result.items c.new-edges.ensures.items;
}

pub push_from-requires : goal.push_from-requires
push_from-requires c =
    let i = c.loop-start.invariant in
    record {
      known = number_kept c.args.arena.now c.loop-start.arena c.start-item.result i.extends
          (number_in c.args.arena.now c.args.starts.now c.loop-start.start-index c.start-item.result c.requires.known
          c.loop-start-test.true c.start-item.is);
      faithful = i.faithful;
    }

pub returns-in_err-push_from : goal.returns-in_err-push_from
returns-in_err-push_from c =
    let i = c.loop-start.invariant in
    let e = c.in_err-push_from.ensures in
    record {
      gathered = IfOk-from_err c.from_residual.result _ c.from_residual.ensures.0;
      extends = extends_more c.args.arena.now c.loop-start.arena c.push_from.new.arena i.extends e.extends;
      faithful = e.faithful;
      kept = λ n pieces h. e.kept n pieces (i.kept n pieces h);
    }

pub loop-start-preserved : goal.loop-start-preserved
loop-start-preserved c =
    let i = c.loop-start.invariant in
    let e = c.in_ok-push_from.ensures in
    let old = c.loop-start.arena in
    let new = c.push_from.new.arena in
    record {
      extends = extends_more c.args.arena.now old new i.extends e.extends;
      faithful = e.faithful;
      kept = λ n pieces h. e.kept n pieces (i.kept n pieces h);
      gathered = gathering_next old new e.extends c.args.starts.now
          (numbers_kept c.args.arena.now old c.args.starts.now i.extends c.requires.known)
          c.loop-start.edges.items c.push_from.new.edges.items c.loop-start.start-index c.start-item.result
          c.loop-start-test.true c.start-item.is e.pushed i.gathered;
    }

pub returns : goal.returns
returns c =
    let i = c.loop-start.invariant in
    record {
      gathered = gathering_done c.loop-start.arena c.args.starts.now c.loop-start.edges.items c.loop-start.start-index
          c.loop-start-test.false i.gathered;
      extends = i.extends;
      faithful = i.faithful;
      kept = i.kept;
    }
