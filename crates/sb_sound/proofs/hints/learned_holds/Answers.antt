use Rattle.sb_sound.proofs.HintFacts.{learned_true}
use Rattle.sb_sound.proofs.hints.learned_holds.Goals as goal

pub returns : goal.returns
returns c = learned_true
