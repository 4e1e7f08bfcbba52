use Rattle.std.proofs.Common.{◌≡◌, length}
use Rattle.sb_meaning.specs.Truth.{is_chain}
use Rattle.sb_atoms.specs.Truths.{is_same}
use Rattle.sb_atoms.proofs.connectives.are_equal.Given as goal

abbrev pub invariant-loop-left : goal.invariant-loop-left
invariant-loop-left l = is_chain is_same l.left ≡ is_chain is_same l.truths

abbrev pub decreases-loop-left : goal.decreases-loop-left
decreases-loop-left l = length l.left
