use Rattle.sb_problem.proofs.Keeping as keeping
use Rattle.sb_problem.proofs.laws.normals_stay.Goals as goal

pub returns : goal.returns
returns c = keeping.normals_stay
