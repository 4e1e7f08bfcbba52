use Rattle.std.proofs.Common.{◌-◌, ◌≤◌, length}
use Rattle.sb_graph.proofs.members.first_nullable.Given as goal
use Rattle.sb_graph.specs.Queue.{AreTested}

abbrev pub invariant-loop-place : goal.invariant-loop-place
invariant-loop-place l = (l.from ≤ l.place) × AreTested l.arena l.regexes l.from l.place

abbrev pub decreases-loop-place : goal.decreases-loop-place
decreases-loop-place l = length l.regexes - l.place
