use Rattle.sb_rulebook.proofs.ProgressFacts.{proofs_keep_order}
use Rattle.sb_rulebook.proofs.laws.proofs_keep_order.Goals as goal

pub returns : goal.returns
returns c = proofs_keep_order c.order_tells_apart.ensures
