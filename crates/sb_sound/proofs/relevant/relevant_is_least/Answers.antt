use Rattle.sb_sound.proofs.LeastFacts.{relevant_is_least}
use Rattle.sb_sound.proofs.relevant.relevant_is_least.Goals as goal

pub returns : goal.returns
returns g c = relevant_is_least g.P.AtomProperty.has
