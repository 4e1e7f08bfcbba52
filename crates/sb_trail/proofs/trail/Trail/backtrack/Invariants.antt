use Rattle.std.proofs.Common.{◌≡◌, length}
use Rattle.sb_trail.specs.Assignments.{up_to}
use Rattle.sb_trail.proofs.trail.Trail.backtrack.Given as goal

abbrev pub invariant-loop : goal.invariant-loop
invariant-loop l = (l.self.reserved ≡ l.initial.self.reserved)
    × (up_to l.level l.self.literals ≡ up_to l.level l.initial.self.literals)

abbrev pub decreases-loop : goal.decreases-loop
decreases-loop l = length l.self.literals
