use Rattle.sb_lang.proofs.DerivativeFacts.{nd_by_sets}
use Rattle.sb_lang.proofs.derivative.derivative_is_by_sets.Goals as goal

pub returns : goal.returns
returns c = nd_by_sets
