use Rattle.sb_lengths.proofs.Bits.{has_and}
use Rattle.sb_lengths.proofs.length_set.LengthSet.intersection.Goals as goal

pub returns : goal.returns
returns c n = rw (← c.self.view_is, ← c.other.view_is) (has_and c.self.inside.bits c.other.inside.bits n)
