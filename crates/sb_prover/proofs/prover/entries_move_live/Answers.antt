use Rattle.sb_prover.proofs.LiveSteps.{entries-move}
use Rattle.sb_prover.proofs.prover.entries_move_live.Goals as goal

pub returns : goal.returns
returns c = entries-move
