use Rattle.sb_lang.proofs.SetFacts.{in_ranges-inter}
use Rattle.sb_lang.proofs.sets.intersection_has_common.Goals as goal

pub returns : goal.returns
returns c = in_ranges-inter
