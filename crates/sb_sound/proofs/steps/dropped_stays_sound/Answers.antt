use Rattle.sb_sound.proofs.SoundLevels.{dropped_sound}
use Rattle.sb_sound.proofs.steps.dropped_stays_sound.Goals as goal

pub returns : goal.returns
returns c = dropped_sound
