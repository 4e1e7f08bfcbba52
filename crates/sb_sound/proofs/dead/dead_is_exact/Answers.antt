use Rattle.sb_sound.proofs.DeadForms.{dead_exact}
use Rattle.sb_sound.proofs.dead.dead_is_exact.Goals as goal

pub returns : goal.returns
returns c = dead_exact
