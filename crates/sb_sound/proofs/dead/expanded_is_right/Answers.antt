use Rattle.sb_sound.proofs.DeadFacts.{expanded_right}
use Rattle.sb_sound.proofs.dead.expanded_is_right.Goals as goal

pub returns : goal.returns
returns c = expanded_right c.order_tells_apart.ensures c.test_decides_expansion.ensures
