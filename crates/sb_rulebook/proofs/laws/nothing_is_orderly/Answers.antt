use Rattle.sb_rulebook.proofs.KeptFacts.{nothing_is_orderly}
use Rattle.sb_rulebook.proofs.laws.nothing_is_orderly.Goals as goal

pub returns : goal.returns
returns c = nothing_is_orderly
