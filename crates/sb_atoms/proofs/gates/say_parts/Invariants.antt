use Rattle.std.proofs.Common.{◌≡◌, [], ◌∷◌, ◌++◌, false, map, take}
use Rattle.sb_rulebook.specs.Gates.{gate}
use Rattle.sb_atoms.proofs.gates.say_parts.Given as goal

abbrev pub invariant-loop-literal : goal.invariant-loop-literal
invariant-loop-literal l =
    l.said.items ≡ l.fn.said.items ++ map (λ m. gate l.atom false ∷ m ∷ []) (take l.literal-index l.literals)
