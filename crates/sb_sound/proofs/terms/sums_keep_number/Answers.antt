use Rattle.sb_sound.proofs.SumFacts.{sums_keep}
use Rattle.sb_sound.proofs.terms.sums_keep_number.Goals as goal

pub returns : goal.returns
returns c = sums_keep
