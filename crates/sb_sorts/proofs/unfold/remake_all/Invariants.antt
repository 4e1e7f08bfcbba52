use Rattle.std.proofs.Common.{ℕ, ◌≤◌, length, drop}
use Rattle.sb_term.specs.Numbered.{terms_at}
use Rattle.sb_sorts.specs.Growth.{Grows}
use Rattle.sb_sorts.proofs.Remaking.{SoFar}
use Rattle.sb_sorts.proofs.unfold.remake_all.Given as goal

abbrev pub invariant-loop-place : goal.invariant-loop-place
invariant-loop-place l =
    (l.place ≤ length l.ids)
    × SoFar l.fn.table l.table (terms_at l.fn.table l.given) l.made.entries (drop l.place l.ids)
    × ((n : ℕ) → Grows n l.fn.table l.table)

abbrev pub decreases-loop-place : goal.decreases-loop-place
decreases-loop-place l = l.place
