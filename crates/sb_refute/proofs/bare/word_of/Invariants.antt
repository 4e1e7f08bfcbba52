use Rattle.sb_refute.proofs.Settled.{AreLettersTo}
use Rattle.sb_refute.proofs.bare.word_of.Given as goal

abbrev pub invariant-loop-piece : goal.invariant-loop-piece
invariant-loop-piece l = AreLettersTo l.pieces l.piece-index l.word.items
