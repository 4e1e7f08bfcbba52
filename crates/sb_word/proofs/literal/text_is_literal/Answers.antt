use Rattle.sb_word.proofs.LiteralWordLemmas.{text_is_literal}
use Rattle.sb_word.proofs.literal.text_is_literal.Goals as goal

pub returns : goal.returns
returns c = text_is_literal
