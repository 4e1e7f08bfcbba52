use Rattle.sb_sound.proofs.GateFacts.{gates_hold}
use Rattle.sb_sound.proofs.gates.gates_hold.Goals as goal

pub returns : goal.returns
returns c = gates_hold c.order_tells_apart.ensures c.mkrep_keeps_language.ensures c.repetition_is_some_power.ensures
