use Rattle.sb_sound.proofs.LeastFacts.{asked_is_closed, relevant_is_closed, regexes_are_closed}
use Rattle.sb_sound.proofs.relevant.relevant_is_closed.Goals as goal

pub returns : goal.returns
returns c = record { asked = asked_is_closed; atoms = relevant_is_closed; regexes = regexes_are_closed }
