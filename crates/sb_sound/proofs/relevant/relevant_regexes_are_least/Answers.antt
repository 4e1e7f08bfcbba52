use Rattle.sb_sound.proofs.LeastFacts.{regexes_are_least}
use Rattle.sb_sound.proofs.relevant.relevant_regexes_are_least.Goals as goal

pub returns : goal.returns
returns g c = regexes_are_least g.P.RegexProperty.has
