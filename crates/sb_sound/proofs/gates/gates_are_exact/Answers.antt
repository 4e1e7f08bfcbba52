use Rattle.sb_sound.proofs.GateForms.{gates_exact}
use Rattle.sb_sound.proofs.gates.gates_are_exact.Goals as goal

pub returns : goal.returns
returns c = gates_exact c.order_tells_apart.ensures
