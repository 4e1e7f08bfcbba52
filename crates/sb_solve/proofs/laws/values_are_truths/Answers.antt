use Rattle.sb_solve.proofs.Deciding.{value_right}
use Rattle.sb_solve.proofs.laws.values_are_truths.Goals as goal

pub returns : goal.returns
returns c = value_right
