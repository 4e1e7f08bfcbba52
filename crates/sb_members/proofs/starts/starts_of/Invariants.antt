use Rattle.std.proofs.Common.{◌-◌, ◌^◌}
use Rattle.sb_members.proofs.Beginnings.{ArePassing}
use Rattle.sb_members.proofs.starts.starts_of.Given as goal

abbrev pub invariant-loop-place : goal.invariant-loop-place
invariant-loop-place l = ArePassing l.arena l.states l.starts.keys l.place

abbrev pub decreases-loop-place : goal.decreases-loop-place
decreases-loop-place l = 2 ^ 64 - l.place
