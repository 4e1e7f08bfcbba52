use Rattle.sb_sound.proofs.SoundLevels.{all_dropped_sound}
use Rattle.sb_sound.proofs.steps.all_dropped_is_sound.Goals as goal

pub returns : goal.returns
returns c = all_dropped_sound
