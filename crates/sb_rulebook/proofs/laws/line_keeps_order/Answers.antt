use Rattle.sb_rulebook.proofs.KeptFacts.{line_keeps_order}
use Rattle.sb_rulebook.proofs.laws.line_keeps_order.Goals as goal

pub returns : goal.returns
returns c = line_keeps_order c.order_tells_apart.ensures
