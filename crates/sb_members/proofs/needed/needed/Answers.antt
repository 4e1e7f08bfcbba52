use Rattle.std.proofs.Common.{ap, sym, ◌∙◌}
use Rattle.sb_regex.specs.Nodes.{node_regex}
use Rattle.sb_members.specs.Choices.{in_each}
use Rattle.sb_members.proofs.Stronger.{needed_and}
use Rattle.sb_members.proofs.needed.needed.Goals as goal

pub returns-then-len : goal.returns-then-len
returns-then-len c =
    let rs = c.args.arena.now in
    let e = c.in_ok-kept-in-And.ensures in
    needed_and c.intersection_is_of_each.ensures rs c.args.regex c.in-And.parts.items c.in_ok-kept-in-And.kept.items
    (ap (node_regex rs) (sym c.in-And.is) ∙ c.node.ensures.value) e.known
    (λ u. e.same u ∙ ap (λ ns. in_each rs ns u) c.as_slice.ensures)
