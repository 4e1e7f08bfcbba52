use Rattle.std.proofs.Common.{◌≡◌, length}
use Rattle.sb_trail.proofs.trail.Trail.clear.Given as goal

abbrev pub invariant-loop : goal.invariant-loop
invariant-loop l = l.self.reserved ≡ l.initial.self.reserved

abbrev pub decreases-loop : goal.decreases-loop
decreases-loop l = length l.self.literals
