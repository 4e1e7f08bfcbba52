use Rattle.sb_solve.proofs.Words.{subst, AreDistinct}
use Rattle.sb_solve.proofs.searching.each_once.Goals as goal

pub returns : goal.returns
returns c = subst AreDistinct c.atoms.ensures c.atoms_each_once.ensures
