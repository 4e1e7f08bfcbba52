use Rattle.sb_solve.proofs.Entailing.{asserted_entailed}
use Rattle.sb_solve.proofs.laws.asserted_is_entailed.Goals as goal

pub returns : goal.returns
returns c = asserted_entailed c.translation_holds.ensures
