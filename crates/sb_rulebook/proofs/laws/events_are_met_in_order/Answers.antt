use Rattle.sb_rulebook.proofs.JudgingFacts.{events_in_order}
use Rattle.sb_rulebook.proofs.laws.events_are_met_in_order.Goals as goal

pub returns : goal.returns
returns c = events_in_order
