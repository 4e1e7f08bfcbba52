use Rattle.sb_lengths.proofs.Sums.{AreSums}
use Rattle.sb_lengths.proofs.length_set.LengthSet.sums.Given as goal

abbrev pub invariant-loop-rest : goal.invariant-loop-rest
invariant-loop-rest l = AreSums l.fn.self l.fn.other l.sums l.rest l.moved

abbrev pub decreases-loop-rest : goal.decreases-loop-rest
decreases-loop-rest l = l.rest
