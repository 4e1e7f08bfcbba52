use Rattle.std.proofs.Common.{ap, sym, ◌∙◌}
use Rattle.std.specs.Cmp.Lexicographic.{same_text}
use Rattle.sb_regex.specs.Nodes.{node_regex}
use Rattle.sb_deriv.proofs.Operations.{named_alt}
use Rattle.sb_deriv.proofs.operation.is_union.Goals as goal

pub returns-in-Alt : goal.returns-in-Alt
returns-in-Alt c =
    λ h. named_alt c.args.arena.now c.args.id c.in-Alt.parts.items c.args.ids.now c.order_tells_apart.ensures
    c.normal_regexes_each_once.ensures.normal c.requires (ap (node_regex c.args.arena.now) (sym c.in-Alt.is)
    ∙ c.node.ensures.value) (sym c.as_slice.ensures ∙ same_text _ _ (sym h ∙ c.eq.ensures))
