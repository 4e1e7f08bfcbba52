use Rattle.sb_lang.proofs.OrderFacts.{order_by_parts}
use Rattle.sb_lang.proofs.order.order_is_by_parts.Goals as goal

pub returns : goal.returns
returns c = order_by_parts
