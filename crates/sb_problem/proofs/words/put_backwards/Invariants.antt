use Rattle.std.proofs.Common.{◌≡◌, ◌≤◌, ◌++◌, length, drop}
use Rattle.sb_problem.specs.Taking.{backwards}
use Rattle.sb_problem.proofs.words.put_backwards.Given as goal

abbrev pub invariant-loop-place : goal.invariant-loop-place
invariant-loop-place l =
    (l.place ≤ length l.fn.ids) × (l.left.items ≡ l.fn.left.items ++ backwards (drop l.place l.fn.ids))

abbrev pub decreases-loop-place : goal.decreases-loop-place
decreases-loop-place l = l.place
