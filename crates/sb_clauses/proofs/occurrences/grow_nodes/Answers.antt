use Rattle.std.proofs.Common.{arith}
use Rattle.std.proofs.lemmas.Grind.{common_steps}
use Rattle.sb_clauses.proofs.occurrences.grow_nodes.Goals as goal

pub returns-in_err-resize-clause-same : goal.returns-in_err-resize-clause-same
returns-in_err-resize-clause-same c = grind (arith, common_steps)
