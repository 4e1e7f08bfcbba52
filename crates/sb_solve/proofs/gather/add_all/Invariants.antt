use Rattle.sb_solve.proofs.Words.{◌≡◌, nat_eq, drop, insert_all, atoms_of}
use Rattle.sb_solve.proofs.gather.add_all.Given as goal

abbrev pub invariant-loop-literal : goal.invariant-loop-literal
invariant-loop-literal l =
    insert_all nat_eq l.found.keys (atoms_of (drop l.literal-index l.literals))
    ≡ insert_all nat_eq l.fn.found.keys (atoms_of l.literals)
