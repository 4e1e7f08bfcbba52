use Rattle.std.proofs.Common.{ℕ, ◌≤◌, length, drop}
use Rattle.sb_sorts.specs.Growth.{Grows}
use Rattle.sb_sorts.specs.Binding.{HasParameters}
use Rattle.sb_sorts.proofs.read.push_parameters.Given as goal

abbrev pub invariant-loop-place : goal.invariant-loop-place
invariant-loop-place l =
    (l.place ≤ length l.parameters)
    × HasParameters l.table l.place (drop l.place l.parameters) l.locals
    × ((n : ℕ) → Grows n l.fn.table l.table)

abbrev pub decreases-loop-place : goal.decreases-loop-place
decreases-loop-place l = l.place
