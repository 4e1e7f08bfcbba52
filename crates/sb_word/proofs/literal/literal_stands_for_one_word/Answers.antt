use Rattle.sb_word.proofs.OneWord.{stands_for_one_word}
use Rattle.sb_word.proofs.literal.literal_stands_for_one_word.Goals as goal

pub returns : goal.returns
returns c = stands_for_one_word
