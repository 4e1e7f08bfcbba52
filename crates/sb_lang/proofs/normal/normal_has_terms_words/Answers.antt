use Rattle.sb_lang.proofs.NormalFacts.{normal_tells}
use Rattle.sb_lang.proofs.normal.normal_has_terms_words.Goals as goal

pub returns : goal.returns
returns c = normal_tells
