use Rattle.sb_solve.proofs.Deciding.{literal_right}
use Rattle.sb_solve.proofs.laws.literals_are_true.Goals as goal

pub returns : goal.returns
returns c = λ rs atoms wanted kept es words v d g consistent l there h.
    literal_right rs atoms wanted kept es words v d g l there consistent h
