use Rattle.sb_lang.proofs.UnionFold.{union_of_more}
use Rattle.sb_lang.proofs.fold.union_of_more.Goals as goal

pub returns : goal.returns
returns c = union_of_more
