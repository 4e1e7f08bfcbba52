use Rattle.std.proofs.Common.{ap, sym, ◌∙◌}
use Rattle.sb_regex.specs.Nodes.{node_regex}
use Rattle.sb_members.specs.Choices.{in_each}
use Rattle.sb_members.proofs.Splits.{choice_and}
use Rattle.sb_members.proofs.divide.choose.Goals as goal

pub returns-in_ok-choice-in-And : goal.returns-in_ok-choice-in-And
returns-in_ok-choice-in-And c =
    let rs = c.args.arena.now in
    let value = ap (node_regex rs) (sym c.in-And.is) ∙ c.node.ensures.value in
    let e = c.in_ok-choice-in-And.ensures in
    choice_and c.intersection_is_of_each.ensures rs c.args.regex c.in-And.parts.items
    c.in_ok-choice-in-And.choice.0.items c.in_ok-choice-in-And.choice.1.items value e.whole e.divided
    (λ u. e.both u ∙ ap (λ ns. in_each rs ns u) c.as_slice.ensures)
