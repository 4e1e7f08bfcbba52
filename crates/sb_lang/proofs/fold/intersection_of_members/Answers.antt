use Rattle.sb_lang.proofs.SameMembers.{intersection_of_members}
use Rattle.sb_lang.proofs.fold.intersection_of_members.Goals as goal

pub returns : goal.returns
returns c = intersection_of_members
