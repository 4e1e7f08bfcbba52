use Rattle.sb_lengths.proofs.Bits.{has_not}
use Rattle.sb_lengths.proofs.length_set.LengthSet.complement.Goals as goal

pub returns : goal.returns
returns c n h = rw (← c.self.view_is) (has_not c.self.inside.bits n h)
