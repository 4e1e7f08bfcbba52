use Rattle.sb_lang.proofs.OrderFacts.{cmp_decides}
use Rattle.sb_lang.proofs.order.order_tells_apart.Goals as goal

pub returns : goal.returns
returns c = cmp_decides
