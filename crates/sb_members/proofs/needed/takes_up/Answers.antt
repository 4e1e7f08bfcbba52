use Rattle.std.proofs.Common.{ap, sym, ◌∙◌}
use Rattle.sb_regex.specs.Nodes.{node_regex}
use Rattle.sb_members.proofs.Stronger.{star_head, all_head}
use Rattle.sb_members.proofs.needed.takes_up.Goals as goal

pub returns-in-Star : goal.returns-in-Star
returns-in-Star c = λ yes.
    let rs = c.args.arena.now in
    star_head c.cut_is_some_cut.ensures c.iteration_is_some_power.ensures rs c.args.head c.in-Star.body c.args.first
    (ap (node_regex rs) (sym c.in-Star.is) ∙ c.node.ensures.value) (c.lies_within.ensures yes)

pub returns-in-Not : goal.returns-in-Not
returns-in-Not c = λ yes.
    let rs = c.args.arena.now in
    all_head c.cut_is_some_cut.ensures rs c.args.head c.in-Not.part c.args.first
    (ap (node_regex rs) (sym c.in-Not.is) ∙ c.node.ensures.value) (c.is_none.ensures yes)
