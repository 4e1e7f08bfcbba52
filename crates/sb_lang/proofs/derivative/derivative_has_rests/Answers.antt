use Rattle.sb_lang.proofs.DerivativeFacts.{nd_tells}
use Rattle.sb_lang.proofs.derivative.derivative_has_rests.Goals as goal

pub returns : goal.returns
returns c = nd_tells
