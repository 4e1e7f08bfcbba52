use Rattle.sb_sound.proofs.DeadFacts.{dead_empty}
use Rattle.sb_sound.proofs.dead.dead_stays_empty.Goals as goal

pub returns : goal.returns
returns c = dead_empty c.nullable_has_empty_word.ensures c.derivative_has_rests.ensures
