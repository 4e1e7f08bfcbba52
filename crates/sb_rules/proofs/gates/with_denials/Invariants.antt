use Rattle.std.proofs.Common.{◌≡◌, ◌∷◌, map, take}
use Rattle.sb_lit.specs.Clauses.{negation}
use Rattle.sb_rules.proofs.gates.with_denials.Given as goal

abbrev pub invariant-loop-conjunct : goal.invariant-loop-conjunct
invariant-loop-conjunct l = l.gate.items ≡ l.fn.literal ∷ map negation (take l.conjunct-index l.conjuncts)
