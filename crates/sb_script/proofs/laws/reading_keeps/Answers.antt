use Rattle.sb_script.proofs.ReadingFacts.{reading_keeps}
use Rattle.sb_script.proofs.laws.reading_keeps.Goals as goal

pub returns : goal.returns
returns c = reading_keeps
