use Rattle.std.proofs.Common.{◌≡◌, drop}
use Rattle.sb_meaning.specs.Truth.{xor_of, xor_from}
use Rattle.sb_atoms.proofs.connectives.exclusive.Given as goal

abbrev pub invariant-loop-other : goal.invariant-loop-other
invariant-loop-other l = xor_from l.odd (drop l.other-index l.others) ≡ xor_of l.truths
