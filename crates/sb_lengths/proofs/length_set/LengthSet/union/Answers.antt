use Rattle.sb_lengths.proofs.Bits.{has_or}
use Rattle.sb_lengths.proofs.length_set.LengthSet.union.Goals as goal

pub returns : goal.returns
returns c n = rw (← c.self.view_is, ← c.other.view_is) (has_or c.self.inside.bits c.other.inside.bits n)
