use Rattle.sb_solve.proofs.Entailing.{dropped_entailed}
use Rattle.sb_solve.proofs.laws.dropped_are_entailed.Goals as goal

pub returns : goal.returns
returns c = dropped_entailed
