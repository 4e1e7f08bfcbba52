use Rattle.std.proofs.Common.{length}
use Rattle.sb_clauses.proofs.Moving.{IsPouring, list_at}
use Rattle.sb_clauses.proofs.watch_lists.pour.Given as goal

abbrev pub invariant-loop-node : goal.invariant-loop-node
invariant-loop-node l = IsPouring l.from l.to l.initial.lists l.lists

abbrev pub decreases-loop-node : goal.decreases-loop-node
decreases-loop-node l = length (list_at l.lists.lists l.from)
