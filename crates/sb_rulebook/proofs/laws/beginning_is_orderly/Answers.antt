use Rattle.sb_rulebook.proofs.ProgressFacts.{beginning_is_orderly}
use Rattle.sb_rulebook.proofs.laws.beginning_is_orderly.Goals as goal

pub returns : goal.returns
returns c = beginning_is_orderly
