use Rattle.std.proofs.Common.{sym, ap, ◌∙◌}
use Rattle.sb_term.specs.Numbered.{terms_at}
use Rattle.sb_term.specs.Nodes.{node_term}
use Rattle.sb_fragment.specs.Shapes.{parts_of}
use Rattle.sb_fragment.proofs.Structured.{terms_in_of}
use Rattle.sb_fragment.proofs.shape.arguments_of.Goals as goal

pub returns-in-Apply-clause-terms : goal.returns-in-Apply-clause-terms
returns-in-Apply-clause-terms c =
    ap (terms_at c.args.table.now) c.as_slice.ensures
    ∙ sym (terms_in_of (terms_at c.args.table.now c.in-Apply.arguments.items))
    ∙ ap parts_of (sym (ap (node_term c.args.table.now) c.in-Apply.is) ∙ c.term.ensures.value)
