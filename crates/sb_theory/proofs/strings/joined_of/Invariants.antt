use Rattle.sb_theory.proofs.Words.{◌≡◌, filter, take, is_joined}
use Rattle.sb_theory.proofs.strings.joined_of.Given as goal

abbrev pub invariant-loop-atom : goal.invariant-loop-atom
invariant-loop-atom l = l.found.items ≡ filter (is_joined l.atoms) (take l.atom-index l.wanted)
