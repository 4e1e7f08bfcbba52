use Rattle.sb_sound.proofs.BoundOrders.{orders_hold}
use Rattle.sb_sound.proofs.bounds.orders_hold.Goals as goal

pub returns : goal.returns
returns c = orders_hold
