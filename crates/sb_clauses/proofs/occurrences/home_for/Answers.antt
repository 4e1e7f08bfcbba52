use Rattle.std.proofs.Common.{arith}
use Rattle.std.proofs.lemmas.Grind.{common_steps}
use Rattle.sb_clauses.proofs.occurrences.home_for.Goals as goal

pub list_of-requires : goal.list_of-requires
list_of-requires c = grind (arith, common_steps)

pub loop-literal-preserved : goal.loop-literal-preserved
loop-literal-preserved c = grind (arith, common_steps)
