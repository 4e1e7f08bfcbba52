use Rattle.sb_lang.proofs.SetFacts.{in_ranges-union}
use Rattle.sb_lang.proofs.sets.union_has_both.Goals as goal

pub returns : goal.returns
returns c = in_ranges-union
