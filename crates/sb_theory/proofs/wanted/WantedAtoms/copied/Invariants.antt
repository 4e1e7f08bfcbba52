use Rattle.sb_theory.proofs.Words.{◌≡◌, take}
use Rattle.sb_theory.proofs.wanted.WantedAtoms.copied.Given as goal

abbrev pub invariant-loop-atom : goal.invariant-loop-atom
invariant-loop-atom l = l.atoms.keys ≡ take l.atom-index l.all
