use Rattle.sb_solve.proofs.Entailing.{none_entailed}
use Rattle.sb_solve.proofs.laws.none_are_entailed.Goals as goal

pub returns : goal.returns
returns c = none_entailed
