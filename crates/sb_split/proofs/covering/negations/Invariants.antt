use Rattle.sb_split.proofs.Words.{◌≡◌, map, take, negation}
use Rattle.sb_split.proofs.covering.negations.Given as goal

abbrev pub invariant-loop-literal : goal.invariant-loop-literal
invariant-loop-literal l = l.all.items ≡ map negation (take l.literal-index l.literals)
