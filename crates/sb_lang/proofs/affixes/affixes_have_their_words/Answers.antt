use Rattle.sb_lang.proofs.AffixFacts.{affixes_have_their_words}
use Rattle.sb_lang.proofs.affixes.affixes_have_their_words.Goals as goal

pub returns : goal.returns
returns c = affixes_have_their_words
