use Rattle.sb_lang.proofs.OnlySorted.{sorted_is_the_only}
use Rattle.sb_lang.proofs.sorted.sorted_is_the_only.Goals as goal

pub returns : goal.returns
returns c = sorted_is_the_only
