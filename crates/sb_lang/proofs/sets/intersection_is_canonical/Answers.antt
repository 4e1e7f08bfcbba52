use Rattle.sb_lang.proofs.SetFacts.{IsCanonical-inter}
use Rattle.sb_lang.proofs.sets.intersection_is_canonical.Goals as goal

pub returns : goal.returns
returns c = IsCanonical-inter
