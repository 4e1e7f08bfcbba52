use Rattle.sb_sound.proofs.LinearFacts.{clause_of_sum_holds}
use Rattle.sb_sound.proofs.linear.linear_holds.Goals as goal

pub returns : goal.returns
returns c = clause_of_sum_holds
