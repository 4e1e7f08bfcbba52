use Rattle.sb_decide.proofs.TakingOver as fact
use Rattle.sb_decide.proofs.laws.ready_grown.Goals as goal

pub returns : goal.returns
returns c = fact.ready_grown
