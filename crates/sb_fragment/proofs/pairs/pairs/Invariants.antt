use Rattle.std.proofs.Common.{◌≡◌, ◌++◌, length}
use Rattle.sb_fragment.specs.Compared.{pairs}
use Rattle.sb_fragment.proofs.pairs.pairs.Given as goal

abbrev pub invariant-loop-left : goal.invariant-loop-left
invariant-loop-left g l = l.found.items ++ pairs l.left ≡ pairs l.items

abbrev pub decreases-loop-left : goal.decreases-loop-left
decreases-loop-left g l = length l.left
