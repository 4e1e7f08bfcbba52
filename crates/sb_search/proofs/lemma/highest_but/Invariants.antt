use Rattle.sb_search.proofs.Words.{take, IsHighest}
use Rattle.sb_search.proofs.lemma.highest_but.Given as goal

abbrev pub invariant-loop-literal : goal.invariant-loop-literal
invariant-loop-literal l = IsHighest l.trail.literals (take l.literal-index l.clause) l.but l.best
