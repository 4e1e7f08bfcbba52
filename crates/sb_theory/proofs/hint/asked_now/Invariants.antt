use Rattle.sb_theory.proofs.Words.{◌≡◌, true, are_atoms}
use Rattle.sb_theory.proofs.hint.asked_now.Given as goal

abbrev pub invariant-loop-atom : goal.invariant-loop-atom
invariant-loop-atom l = are_atoms l.atoms l.found.items ≡ true
