use Rattle.sb_lengths.proofs.Powers.{IsPower}
use Rattle.sb_lengths.proofs.length_set.LengthSet.times.Given as goal

abbrev pub invariant-loop-step : goal.invariant-loop-step
invariant-loop-step l = IsPower l.fn.self l._step l.these
