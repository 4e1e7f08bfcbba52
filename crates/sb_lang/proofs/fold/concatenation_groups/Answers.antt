use Rattle.sb_lang.proofs.NormalFormFacts.{concatenation_groups}
use Rattle.sb_lang.proofs.fold.concatenation_groups.Goals as goal

pub returns : goal.returns
returns c = concatenation_groups
