use Rattle.sb_solve.proofs.Entailing.{continued_entailed}
use Rattle.sb_solve.proofs.laws.continued_are_entailed.Goals as goal

pub returns : goal.returns
returns c = continued_entailed
