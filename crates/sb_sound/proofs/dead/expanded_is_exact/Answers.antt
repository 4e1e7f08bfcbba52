use Rattle.sb_sound.proofs.ExpansionForms.{expanded_exact}
use Rattle.sb_sound.proofs.dead.expanded_is_exact.Goals as goal

pub returns : goal.returns
returns c = expanded_exact c.order_tells_apart.ensures c.test_decides_expansion.ensures
