use Rattle.sb_sound.proofs.SoundLevels.{continued_sound}
use Rattle.sb_sound.proofs.steps.continued_stays_sound.Goals as goal

pub returns : goal.returns
returns c = continued_sound
