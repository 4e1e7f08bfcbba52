use Rattle.std.proofs.Common.{◌≡◌, ◌≤◌, ◌++◌, length, drop}
use Rattle.sb_sorts.specs.Binding.{pairs_of}
use Rattle.sb_sorts.proofs.read.bind_all.Given as goal

abbrev pub invariant-loop-place : goal.invariant-loop-place
invariant-loop-place l =
    (l.place ≤ length l.bound) × (l.locals ≡ pairs_of (drop l.place l.bound) ++ l.fn.locals)

abbrev pub decreases-loop-place : goal.decreases-loop-place
decreases-loop-place l = l.place
