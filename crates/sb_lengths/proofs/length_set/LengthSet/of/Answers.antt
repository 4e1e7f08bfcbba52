use Rattle.sb_lengths.proofs.Bits.{has_one_shifted}
use Rattle.sb_lengths.proofs.length_set.LengthSet.of.Goals as goal

pub returns : goal.returns
returns c n = has_one_shifted c.args.length n c.requires
