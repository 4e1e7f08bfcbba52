use Rattle.sb_sound.proofs.NamedFacts.{named_refuted}
use Rattle.sb_sound.proofs.verdicts.named_are_refuted.Goals as goal

pub returns : goal.returns
returns c = named_refuted
