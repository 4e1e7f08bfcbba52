use Rattle.std.proofs.Common.{◌≡◌, drop}
use Rattle.sb_graph.specs.Visiting.{visited}
use Rattle.sb_graph.proofs.search.visit.Given as goal

abbrev pub invariant-loop-start : goal.invariant-loop-start
invariant-loop-start l =
    visited l.dead l.place l.queue (drop l.start-index l.pieces) ≡ visited l.dead l.place l.fn.queue l.pieces
