use Rattle.sb_sound.proofs.OrderForms.{orders_exact}
use Rattle.sb_sound.proofs.bounds.orders_are_exact.Goals as goal

pub returns : goal.returns
returns c = orders_exact c.order_tells_apart.ensures
