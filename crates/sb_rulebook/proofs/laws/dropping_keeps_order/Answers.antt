use Rattle.sb_rulebook.proofs.KeptFacts.{dropping_keeps_order}
use Rattle.sb_rulebook.proofs.laws.dropping_keeps_order.Goals as goal

pub returns : goal.returns
returns c = dropping_keeps_order
