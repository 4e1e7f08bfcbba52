use Rattle.sb_refute.proofs.Words.{◌≡◌, map, take, negation}
use Rattle.sb_refute.proofs.bare.denied.Given as goal

abbrev pub invariant-loop-literal : goal.invariant-loop-literal
invariant-loop-literal l = l.negations.items ≡ map negation (take l.literal-index l.literals)
