use Rattle.sb_graph.specs.Lengths.{AreZeros}
use Rattle.sb_graph.proofs.depth.put_zeros.Given as goal

abbrev pub invariant-loop-place : goal.invariant-loop-place
invariant-loop-place l = AreZeros l._place l.fn.codes.items l.codes.items
