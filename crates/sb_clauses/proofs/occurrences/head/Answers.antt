use Rattle.std.proofs.Common.{arith}
use Rattle.std.proofs.lemmas.Grind.{common_steps}
use Rattle.sb_clauses.proofs.occurrences.head.Goals as goal

pub returns-else-list-len : goal.returns-else-list-len
returns-else-list-len c = grind (arith, common_steps)
