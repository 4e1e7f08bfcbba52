use Rattle.sb_sound.proofs.LeastFacts.{asked_is_least}
use Rattle.sb_sound.proofs.relevant.asked_is_least.Goals as goal

pub returns : goal.returns
returns g c = asked_is_least g.P.AskedProperty.has
