use Rattle.std.proofs.Common.{◌≡◌, drop}
use Rattle.sb_regex.specs.Steps.{first_difference}
use Rattle.sb_regex.proofs.compare.first_difference.Given as goal

abbrev pub invariant-loop-i : goal.invariant-loop-i
invariant-loop-i l = first_difference (drop l.i l.left) (drop l.i l.right) ≡ first_difference l.left l.right
