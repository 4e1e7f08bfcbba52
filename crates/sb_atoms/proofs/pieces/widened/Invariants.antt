use Rattle.std.proofs.Common.{◌≡◌, take}
use Rattle.sb_atoms.proofs.pieces.widened.Given as goal

abbrev pub invariant-loop-code : goal.invariant-loop-code
invariant-loop-code l = l.all.items ≡ take l.code-index l.codes
