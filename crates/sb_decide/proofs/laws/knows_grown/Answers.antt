use Rattle.sb_decide.proofs.Knowledge as fact
use Rattle.sb_decide.proofs.laws.knows_grown.Goals as goal

pub returns : goal.returns
returns c = fact.knows_grown
