use Rattle.std.proofs.Common.{arith}
use Rattle.std.proofs.lemmas.Grind.{common_steps}
use Rattle.sb_clauses.proofs.place.latest.Goals as goal

pub loop-place-preserved-then-is_the : goal.loop-place-preserved-then-is_the
loop-place-preserved-then-is_the c = grind (arith, common_steps)

pub returns : goal.returns
returns c = grind (arith, common_steps)
