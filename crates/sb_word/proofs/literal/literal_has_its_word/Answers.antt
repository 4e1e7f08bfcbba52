use Rattle.sb_word.proofs.LiteralWordLemmas.{literal_has_its_word}
use Rattle.sb_word.proofs.literal.literal_has_its_word.Goals as goal

pub returns : goal.returns
returns c = literal_has_its_word
