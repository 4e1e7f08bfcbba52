use Rattle.sb_search.proofs.Following.{entails_learned}
use Rattle.sb_search.proofs.conflict.learned_follows.Goals as goal

pub returns : goal.returns
returns c = entails_learned c.learned_holds.ensures c.learned_has_levels.ensures
