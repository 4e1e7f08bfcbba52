use Rattle.sb_lang.proofs.SetFacts.{IsCanonical-union}
use Rattle.sb_lang.proofs.sets.union_is_canonical.Goals as goal

pub returns : goal.returns
returns c = IsCanonical-union
