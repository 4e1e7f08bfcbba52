use Rattle.sb_search.proofs.Words.{arith, common_steps}
use Rattle.sb_search.proofs.stage.next_assumption.Goals as goal

pub loop-next-preserved : goal.loop-next-preserved
loop-next-preserved c = grind (arith, common_steps)

pub returns-clause-next : goal.returns-clause-next
returns-clause-next c = grind (arith, common_steps)

pub returns-then-ne-clause-next : goal.returns-then-ne-clause-next
returns-then-ne-clause-next c = grind (arith, common_steps)
