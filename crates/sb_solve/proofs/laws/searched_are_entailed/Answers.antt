use Rattle.sb_solve.proofs.Entailing.{searched_entailed}
use Rattle.sb_solve.proofs.laws.searched_are_entailed.Goals as goal

pub returns : goal.returns
returns c = searched_entailed
