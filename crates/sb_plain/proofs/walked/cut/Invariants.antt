use Rattle.std.proofs.Common.{◌≡◌, ◌++◌, take, drop}
use Rattle.std.specs.Prelude.{map}
use Rattle.sb_plain.specs.Staying.{cut_to}
use Rattle.sb_plain.proofs.walked.cut.Given as goal

abbrev pub invariant-loop-place : goal.invariant-loop-place
invariant-loop-place l = l.stays ≡ map (cut_to l.count) (take l.place l.fn.stays) ++ drop l.place l.fn.stays
