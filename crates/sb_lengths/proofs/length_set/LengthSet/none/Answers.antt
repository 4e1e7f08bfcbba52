use Rattle.sb_lengths.proofs.Bits.{has_zero}
use Rattle.sb_lengths.proofs.length_set.LengthSet.none.Goals as goal

pub returns : goal.returns
returns c n = has_zero n
