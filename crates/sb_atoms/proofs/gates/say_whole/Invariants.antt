use Rattle.std.proofs.Common.{◌≡◌, ◌∷◌, true, take, map}
use Rattle.sb_lit.specs.Clauses.{negation}
use Rattle.sb_rulebook.specs.Gates.{gate}
use Rattle.sb_atoms.proofs.gates.say_whole.Given as goal

abbrev pub invariant-loop-literal : goal.invariant-loop-literal
invariant-loop-literal l = l.whole.items ≡ gate l.fn.atom true ∷ map negation (take l.literal-index l.literals)
