use Rattle.sb_lengths.proofs.Bits.{has_full}
use Rattle.sb_lengths.proofs.length_set.LengthSet.full.Goals as goal

pub returns : goal.returns
returns c n h = has_full n h
