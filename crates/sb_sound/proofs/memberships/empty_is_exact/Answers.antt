use Rattle.sb_sound.proofs.EmptyForms.{empty_exact}
use Rattle.sb_sound.proofs.memberships.empty_is_exact.Goals as goal

pub returns : goal.returns
returns c = empty_exact c.order_tells_apart.ensures
