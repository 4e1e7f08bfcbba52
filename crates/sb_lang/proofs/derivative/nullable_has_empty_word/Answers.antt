use Rattle.sb_lang.proofs.NullableFacts.{nullable_tells}
use Rattle.sb_lang.proofs.derivative.nullable_has_empty_word.Goals as goal

pub returns : goal.returns
returns c = nullable_tells
