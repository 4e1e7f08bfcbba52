use Rattle.sb_solve.proofs.Entailing.{refuted_false}
use Rattle.sb_solve.proofs.laws.refuted_are_false.Goals as goal

pub returns : goal.returns
returns c = refuted_false
