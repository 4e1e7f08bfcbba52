use Rattle.std.proofs.Common.{◌≡◌, take}
use Rattle.sb_deriv.proofs.targets.classes.Given as goal

abbrev pub invariant-loop-target : goal.invariant-loop-target
invariant-loop-target l = l.targets.items ≡ take l.target-index l.gathered
