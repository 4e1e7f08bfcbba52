use Rattle.sb_search.proofs.Words.{arith, common_steps, elements}
use Rattle.sb_search.proofs.Places.{open_turn, open_end}
use Rattle.sb_search.proofs.stage.open_from.Goals as goal

pub loop-atom-smaller : goal.loop-atom-smaller
loop-atom-smaller g c = grind (arith, elements)

pub overflow_add-at : goal.overflow_add-at
overflow_add-at g c = grind (arith, elements)

pub loop-atom-preserved : goal.loop-atom-preserved
loop-atom-preserved g c = grind (arith, common_steps, open_turn, open_end)

pub returns : goal.returns
returns g c = grind (arith, common_steps, open_turn, open_end)
