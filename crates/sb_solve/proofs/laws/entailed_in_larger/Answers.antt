use Rattle.sb_solve.proofs.Entailing.{entailed_larger}
use Rattle.sb_solve.proofs.laws.entailed_in_larger.Goals as goal

pub returns : goal.returns
returns c = entailed_larger
