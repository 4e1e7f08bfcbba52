use Rattle.std.proofs.Common.{take}
use Rattle.sb_problem.proofs.Joins.{AreComplements}
use Rattle.sb_problem.proofs.join.complements.Given as goal

abbrev pub invariant-loop-id : goal.invariant-loop-id
invariant-loop-id l = AreComplements l.fn.arena l.arena (take l.id-index l.fn.ids) l.found.items
