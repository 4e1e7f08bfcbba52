use Rattle.std.proofs.Common.{arith}
use Rattle.std.proofs.lemmas.Grind.{common_steps}
use Rattle.sb_clauses.proofs.settle.false_literal.Goals as goal

pub returns-then-at-len-clause-literal : goal.returns-then-at-len-clause-literal
returns-then-at-len-clause-literal c = grind (arith, common_steps)
