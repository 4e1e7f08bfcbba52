use Rattle.std.proofs.Common.{◌≡◌, ◌++◌, length}
use Rattle.sb_fragment.specs.Compared.{neighbours}
use Rattle.sb_fragment.proofs.pairs.neighbours.Given as goal

abbrev pub invariant-loop-left : goal.invariant-loop-left
invariant-loop-left g l = l.found.items ++ neighbours l.left ≡ neighbours l.items

abbrev pub decreases-loop-left : goal.decreases-loop-left
decreases-loop-left g l = length l.left
