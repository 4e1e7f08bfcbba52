use Rattle.std.proofs.Common.{sym, ◌∙◌, true, false}
use Rattle.sb_graph.proofs.Steps.{visit_more, visit_all}
use Rattle.sb_graph.proofs.search.visit.Goals as goal
use Rattle.sb_graph.proofs.search.visit.Goals.{then-not-is_marked+in_ok-put, else-not-is_marked}

pub loop-start-preserved : goal.loop-start-preserved
loop-start-preserved c =
    elim c.if-not-is_marked.branch [
      | then-not-is_marked+in_ok-put w ↦
          visit_more c.args.dead.now c.args.place c.loop-start.queue _ _ c.args.pieces.now c.loop-start.start-index
          c.loop-start-item.result false c.loop-start-test.true c.loop-start-item.is
          (sym w.if-not-is_marked.true ∙ c.is_marked.ensures) (w.queue-is ∙ w.in_ok-put.ensures) c.loop-start.invariant
      | else-not-is_marked w ↦
          visit_more c.args.dead.now c.args.place c.loop-start.queue _ _ c.args.pieces.now c.loop-start.start-index
          c.loop-start-item.result true c.loop-start-test.true c.loop-start-item.is
          (sym w.if-not-is_marked.false ∙ c.is_marked.ensures) w.queue-is c.loop-start.invariant
    ]

pub returns : goal.returns
returns c = visit_all c.args.dead.now c.args.place c.loop-start.queue _ c.args.pieces.now c.loop-start.start-index
    c.loop-start-test.false c.loop-start.invariant
