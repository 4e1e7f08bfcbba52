use Rattle.sb_lang.proofs.UnionFold.{union_of_one}
use Rattle.sb_lang.proofs.fold.union_of_one.Goals as goal

pub returns : goal.returns
returns c = union_of_one
