use Rattle.sb_sound.proofs.StepForms.{steps_exact}
use Rattle.sb_sound.proofs.memberships.steps_are_exact.Goals as goal

pub returns : goal.returns
returns c = steps_exact c.order_tells_apart.ensures
