use Rattle.sb_prover.proofs.LiveLevels.{levels-stay}
use Rattle.sb_prover.proofs.prover.levels_stay.Goals as goal

pub returns : goal.returns
returns c = levels-stay
