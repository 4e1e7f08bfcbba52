use Rattle.sb_sound.proofs.RelevantFacts.{distinct}
use Rattle.sb_sound.proofs.relevant.distinct_stand_once.Goals as goal

pub returns : goal.returns
returns c = distinct c.order_tells_apart.ensures
