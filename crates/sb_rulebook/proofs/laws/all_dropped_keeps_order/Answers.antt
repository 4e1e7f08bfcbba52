use Rattle.sb_rulebook.proofs.KeptFacts.{all_dropped_keeps_order}
use Rattle.sb_rulebook.proofs.laws.all_dropped_keeps_order.Goals as goal

pub returns : goal.returns
returns c = all_dropped_keeps_order
