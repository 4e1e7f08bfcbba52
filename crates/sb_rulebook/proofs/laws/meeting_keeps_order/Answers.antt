use Rattle.sb_rulebook.proofs.ProgressFacts.{meeting_keeps_order}
use Rattle.sb_rulebook.proofs.laws.meeting_keeps_order.Goals as goal

pub returns : goal.returns
returns c = meeting_keeps_order c.order_tells_apart.ensures
