use Rattle.sb_sound.proofs.RelevantFacts.{stands}
use Rattle.sb_sound.proofs.relevant.speaks_of_what_stands_in.Goals as goal

pub returns : goal.returns
returns c = stands
