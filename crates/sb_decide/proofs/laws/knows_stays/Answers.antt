use Rattle.sb_decide.proofs.Knowledge as fact
use Rattle.sb_decide.proofs.laws.knows_stays.Goals as goal

pub returns : goal.returns
returns c = fact.knows_stays c.normals_stay.ensures
