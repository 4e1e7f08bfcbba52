use Rattle.std.proofs.Common.{arith}
use Rattle.std.proofs.lemmas.Grind.{common_steps}
use Rattle.sb_clauses.proofs.spare.is_gone.Goals as goal

pub bounds-records-number : goal.bounds-records-number
bounds-records-number c = grind (arith, common_steps)

pub offset_bounds-records-number : goal.offset_bounds-records-number
offset_bounds-records-number c = grind (arith, common_steps)
