use Rattle.sb_lang.proofs.OrderFacts.{regex_cmp_total}
use Rattle.sb_lang.proofs.order.order_is_total.Goals as goal

pub returns : goal.returns
returns c = regex_cmp_total
