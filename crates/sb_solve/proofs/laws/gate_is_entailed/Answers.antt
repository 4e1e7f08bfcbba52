use Rattle.sb_solve.proofs.Entailing.{gate_entailed}
use Rattle.sb_solve.proofs.laws.gate_is_entailed.Goals as goal

pub returns : goal.returns
returns c = gate_entailed c.gates_hold.ensures
