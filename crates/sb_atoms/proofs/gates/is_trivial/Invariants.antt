use Rattle.std.proofs.Common.{◌≡◌, length}
use Rattle.sb_atoms.specs.GateClauses.{is_trivial}
use Rattle.sb_atoms.proofs.gates.is_trivial.Given as goal

abbrev pub invariant-loop-left : goal.invariant-loop-left
invariant-loop-left l = is_trivial l.left ≡ is_trivial l.literals

abbrev pub decreases-loop-left : goal.decreases-loop-left
decreases-loop-left l = length l.left
