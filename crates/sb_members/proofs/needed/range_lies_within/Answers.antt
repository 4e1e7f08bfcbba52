use Rattle.std.proofs.Common.{ap, sym, ◌∙◌}
use Rattle.sb_class.specs.Ranges.{in_ranges}
use Rattle.sb_regex.specs.Nodes.{node_regex}
use Rattle.sb_members.proofs.Stronger.{within_set}
use Rattle.sb_members.proofs.needed.range_lies_within.Goals as goal

pub returns-in-Set : goal.returns-in-Set
returns-in-Set c = λ yes.
    let rs = c.args.arena.now in
    within_set rs c.args.other c.in-Set.ranges.items c.args.range
    (ap (node_regex rs) (sym c.in-Set.is) ∙ c.node.ensures.value)
    (λ code h. ap (λ ranges. in_ranges ranges code) (sym c.as_slice.ensures.value) ∙ c.covers.ensures yes code h)
