use Rattle.std.proofs.Common.{ap, sym, ◌∙◌}
use Rattle.std.specs.Cmp.Lexicographic.{same_text}
use Rattle.sb_regex.specs.Nodes.{node_regex}
use Rattle.sb_deriv.proofs.Operations.{named_and}
use Rattle.sb_deriv.proofs.operation.is_intersection.Goals as goal

pub returns-in-And : goal.returns-in-And
returns-in-And c =
    λ h. named_and c.args.arena.now c.args.id c.in-And.parts.items c.args.ids.now c.order_tells_apart.ensures
    c.normal_regexes_each_once.ensures.normal c.requires (ap (node_regex c.args.arena.now) (sym c.in-And.is)
    ∙ c.node.ensures.value) (sym c.as_slice.ensures ∙ same_text _ _ (sym h ∙ c.eq.ensures))
