use Rattle.std.proofs.Common.{◌≡◌, ◌<◌, length, drop}
use Rattle.sb_meaning.specs.Truth.{implied}
use Rattle.sb_atoms.proofs.connectives.implied.Given as goal

abbrev pub invariant-loop-left : goal.invariant-loop-left
invariant-loop-left l = (l.left < length l.fn.truths) × (l.behind ≡ implied (drop l.left l.fn.truths))

abbrev pub decreases-loop-left : goal.decreases-loop-left
decreases-loop-left l = l.left
