use Rattle.sb_lengths.proofs.Powers.{ArePowers}
use Rattle.sb_lengths.proofs.length_set.LengthSet.powers.Given as goal

abbrev pub invariant-loop-count : goal.invariant-loop-count
invariant-loop-count l = ArePowers l.fn.self l.sums l.these l.first l._count
