use Rattle.sb_plain.proofs.Failing.{all_right_kept}
use Rattle.sb_plain.proofs.right_stays.Goals as goal

pub returns : goal.returns
returns c = all_right_kept
