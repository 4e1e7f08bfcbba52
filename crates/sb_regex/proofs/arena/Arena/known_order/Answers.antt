use Rattle.std.proofs.Common.{◌∙◌}
use Rattle.sb_regex.proofs.Remembering.{order_before}
use Rattle.sb_regex.proofs.arena.Arena.known_order.Goals as goal

pub returns : goal.returns
returns c =
    order_before c.args.self.now c.self.inside.made c.self.inside.orders c.args.a c.args.b c.copied.result
    (rw (c.self.view_is) at c.self.invariant.1) (c.copied.ensures ∙ c.get.ensures.value)
