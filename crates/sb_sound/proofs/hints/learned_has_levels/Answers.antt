use Rattle.sb_sound.proofs.HintFacts.{learned_levels}
use Rattle.sb_sound.proofs.hints.learned_has_levels.Goals as goal

pub returns : goal.returns
returns c = learned_levels
