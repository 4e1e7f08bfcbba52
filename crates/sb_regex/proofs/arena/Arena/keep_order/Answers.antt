use Rattle.sb_regex.proofs.Remembering.{order_added}
use Rattle.sb_regex.specs.Table.{regexes_of}
use Rattle.sb_regex.proofs.arena.Arena.keep_order.Goals as goal

pub invariant_of-self-2 : goal.invariant_of-self-2
invariant_of-self-2 c = (
  c.self.invariant.0,
  order_added (regexes_of c.self.inside.nodes.keys) _ _ _ c.args.a c.args.b c.args.order c.self.invariant.1
      c.in_ok-insert.ensures.updates.0
      (rw (c.self.view_is) c.requires.left) (rw (c.self.view_is) c.requires.right)
      (rw (c.self.view_is) c.requires.order),
  c.self.invariant.2,
)
