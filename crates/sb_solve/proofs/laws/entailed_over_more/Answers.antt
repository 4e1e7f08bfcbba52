use Rattle.sb_solve.proofs.Entailing.{entailed_more}
use Rattle.sb_solve.proofs.laws.entailed_over_more.Goals as goal

pub returns : goal.returns
returns c = entailed_more
