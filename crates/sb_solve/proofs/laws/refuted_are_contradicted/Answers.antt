use Rattle.sb_solve.proofs.Entailing.{refuted_contradicted}
use Rattle.sb_solve.proofs.laws.refuted_are_contradicted.Goals as goal

pub returns : goal.returns
returns c = refuted_contradicted
