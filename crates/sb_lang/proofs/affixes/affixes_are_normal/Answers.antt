use Rattle.sb_lang.proofs.AffixFacts.{affixes_are_normal}
use Rattle.sb_lang.proofs.affixes.affixes_are_normal.Goals as goal

pub returns : goal.returns
returns c = affixes_are_normal
