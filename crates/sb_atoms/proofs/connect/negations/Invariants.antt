use Rattle.std.proofs.Common.{◌≡◌, map, take}
use Rattle.sb_lit.specs.Clauses.{negation}
use Rattle.sb_atoms.proofs.connect.negations.Given as goal

abbrev pub invariant-loop-literal : goal.invariant-loop-literal
invariant-loop-literal l = l.all.items ≡ map negation (take l.literal-index l.literals)
