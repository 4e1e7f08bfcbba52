use Rattle.std.proofs.Common.{ap, sym, ◌∙◌, arith}
use Rattle.sb_regex.specs.Nodes.{node_regex}
use Rattle.sb_members.proofs.Stronger.{part_behind}
use Rattle.sb_members.proofs.needed.behind_part.Goals as goal

pub returns-then-lies_within : goal.returns-then-lies_within
returns-then-lies_within c =
    let rs = c.args.arena.now in
    let parts = rw (c.in-Cat.is) at c.node.ensures.parts in
    part_behind c.cut_is_some_cut.ensures rs c.args.body c.args.at c.in-Cat.first c.in-Cat.next (parts 1 0 (omega arith))
    (ap (node_regex rs) (sym c.in-Cat.is) ∙ c.node.ensures.value) (c.lies_within.ensures c.if-lies_within.true)
