use Rattle.sb_rulebook.proofs.ExpansionFacts.{test_decides}
use Rattle.sb_rulebook.proofs.laws.test_decides_expansion.Goals as goal

pub returns : goal.returns
returns c = test_decides c.derivative_is_by_sets.ensures
