use Rattle.sb_lang.proofs.SameMembers.{union_of_members}
use Rattle.sb_lang.proofs.fold.union_of_members.Goals as goal

pub returns : goal.returns
returns c = union_of_members
