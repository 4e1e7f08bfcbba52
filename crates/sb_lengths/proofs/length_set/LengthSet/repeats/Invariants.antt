use Rattle.sb_lengths.proofs.Repeats.{AreRepeats}
use Rattle.sb_lengths.proofs.length_set.LengthSet.repeats.Given as goal

abbrev pub invariant-loop-length : goal.invariant-loop-length
invariant-loop-length l = AreRepeats l.self-inside.bits l.sums l.length
