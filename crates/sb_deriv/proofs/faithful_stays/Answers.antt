use Rattle.sb_deriv.proofs.Derivatives.{faithful_kept}
use Rattle.sb_deriv.proofs.faithful_stays.Goals as goal

pub returns : goal.returns
returns c = faithful_kept
