use Rattle.sb_solve.proofs.Deciding.{term_right}
use Rattle.sb_solve.proofs.laws.terms_are_true.Goals as goal

pub returns : goal.returns
returns c = λ rs atoms wanted kept es words v d g.
    term_right rs atoms wanted kept es words v d g c.translation_holds.ensures
