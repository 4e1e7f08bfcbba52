use Rattle.std.proofs.Common.{refl}
use Rattle.sb_trace.proofs.node.proof_rep.Goals as goal

pub returns : goal.returns
returns c = (c.number_of.result, c.number_of.ensures, c.ranges.least.fits, c.ranges.most.fits, refl)
