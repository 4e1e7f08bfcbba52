use Rattle.sb_class.proofs.RangeFacts.{same_from}
use Rattle.sb_class.proofs.same_members.Goals as goal

pub returns : goal.returns
returns c = same_from 0
