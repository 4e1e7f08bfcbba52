use Rattle.sb_solve.proofs.Words.{◌-◌, ◌^◌}
use Rattle.sb_solve.proofs.Gathered.{Closing}
use Rattle.sb_solve.proofs.gather.close.Given as goal

abbrev pub invariant-loop-place : goal.invariant-loop-place
invariant-loop-place l = Closing l.atoms l.fn.found.keys l.place l.found.keys

abbrev pub decreases-loop-place : goal.decreases-loop-place
decreases-loop-place l = 2 ^ 63 - l.place
