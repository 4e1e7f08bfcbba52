use Rattle.sb_sound.proofs.HintForms.{learned_exact}
use Rattle.sb_sound.proofs.hints.learned_is_exact.Goals as goal

pub returns : goal.returns
returns c = learned_exact
