use Rattle.sb_lang.proofs.DerivativeFacts.{closed_is_empty}
use Rattle.sb_lang.proofs.derivative.closed_without_empty_word_is_empty.Goals as goal

pub returns : goal.returns
returns c = closed_is_empty
