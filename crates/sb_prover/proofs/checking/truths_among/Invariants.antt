use Rattle.sb_prover.proofs.Words.{take, AreTruthsAmong}
use Rattle.sb_prover.proofs.checking.truths_among.Given as goal

abbrev pub invariant-loop-serial : goal.invariant-loop-serial
invariant-loop-serial l = AreTruthsAmong (take l.serial-index l.serials) l.truths l.others.items
