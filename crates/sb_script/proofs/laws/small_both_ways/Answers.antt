use Rattle.sb_script.proofs.OppositeSums.{small_both_ways}
use Rattle.sb_script.proofs.laws.small_both_ways.Goals as goal

pub returns : goal.returns
returns c = small_both_ways
