use Rattle.std.proofs.Common.{arith}
use Rattle.std.proofs.lemmas.Grind.{common_steps}
use Rattle.sb_proof.proofs.kinds.kind_of.Goals as goal

pub loop-text-preserved : goal.loop-text-preserved
loop-text-preserved g c = grind (arith, common_steps)

pub returns : goal.returns
returns g c = grind (arith, common_steps)

pub returns-then-is_word : goal.returns-then-is_word
returns-then-is_word g c = grind (arith, common_steps)
