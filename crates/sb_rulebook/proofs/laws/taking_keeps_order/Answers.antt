use Rattle.sb_rulebook.proofs.ProgressFacts.{taking_keeps_order}
use Rattle.sb_rulebook.proofs.laws.taking_keeps_order.Goals as goal

pub returns : goal.returns
returns c = taking_keeps_order c.order_tells_apart.ensures
