use Rattle.std.proofs.Common.{◌≡◌, ◌∷◌, take}
use Rattle.sb_lit.specs.declared.clause.Lit.{Lit}
use Rattle.sb_atoms.proofs.Connected.{Excluded}
use Rattle.sb_atoms.proofs.table.Atoms.exclusive.Given as goal

abbrev pub invariant-loop-other : goal.invariant-loop-other
invariant-loop-other l =
    (first : Lit) × (l.literals ≡ first ∷ l.others)
    × Excluded l.adds l.fn.self l.self first (take l.other-index l.others) l.first
