use Rattle.sb_sound.proofs.CountFacts.{lines_counted}
use Rattle.sb_sound.proofs.counts.lines_are_counted.Goals as goal

pub returns : goal.returns
returns c = lines_counted
