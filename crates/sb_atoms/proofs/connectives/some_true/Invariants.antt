use Rattle.std.proofs.Common.{◌≡◌, ◌≤◌, length, drop}
use Rattle.sb_meaning.specs.Truth.{some_true}
use Rattle.sb_atoms.proofs.connectives.some_true.Given as goal

abbrev pub invariant-loop-left : goal.invariant-loop-left
invariant-loop-left l = (l.left ≤ length l.fn.truths) × (l.some ≡ some_true (drop l.left l.fn.truths))

abbrev pub decreases-loop-left : goal.decreases-loop-left
decreases-loop-left l = l.left
