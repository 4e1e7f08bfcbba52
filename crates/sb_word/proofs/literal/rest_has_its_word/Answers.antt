use Rattle.sb_word.proofs.LiteralWordLemmas.{word_of_rest}
use Rattle.sb_word.proofs.literal.rest_has_its_word.Goals as goal

pub returns : goal.returns
returns c = word_of_rest
