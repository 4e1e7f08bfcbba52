use Rattle.sb_sound.proofs.LinearForms.{linear_exact}
use Rattle.sb_sound.proofs.linear.linear_is_exact.Goals as goal

pub returns : goal.returns
returns c = linear_exact
