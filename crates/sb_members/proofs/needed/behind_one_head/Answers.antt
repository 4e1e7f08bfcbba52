use Rattle.std.proofs.Common.{ap, sym, ◌∙◌, arith}
use Rattle.sb_regex.specs.Nodes.{node_regex}
use Rattle.sb_members.proofs.Stronger.{behind_head}
use Rattle.sb_members.proofs.needed.behind_one_head.Goals as goal

pub returns-then-eq : goal.returns-then-eq
returns-then-eq c =
    let rs = c.args.arena.now in
    let p = rw (c.in-Cat.is) at c.node.ensures.parts in
    let q = rw (c.in-Cat-node.is) at c.node-in-Cat.ensures.parts in
    behind_head c.cut_is_some_cut.ensures rs c.args.wide c.args.narrow c.in-Cat.head c.in-Cat-node.other c.in-Cat.x
    c.in-Cat-node.y (p 1 0 (omega arith)) (q 1 0 (omega arith))
    (ap (node_regex rs) (sym c.in-Cat.is) ∙ c.node.ensures.value)
    (ap (node_regex rs) (sym c.in-Cat-node.is) ∙ c.node-in-Cat.ensures.value) (sym c.eq.ensures ∙ c.if-eq.true)
