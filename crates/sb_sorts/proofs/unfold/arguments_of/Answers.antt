use Rattle.std.proofs.Common.{sym, ap, ◌∙◌}
use Rattle.sb_term.specs.Numbered.{terms_at}
use Rattle.sb_term.specs.Nodes.{node_term}
use Rattle.sb_sorts.proofs.Remaking.{arguments_are}
use Rattle.sb_sorts.proofs.unfold.arguments_of.Goals as goal

pub returns-in-Apply-clause-terms : goal.returns-in-Apply-clause-terms
returns-in-Apply-clause-terms c =
    ap (terms_at c.args.table.now) c.as_slice.ensures
    ∙ arguments_are c.args.table.now c.args.id _ c.in-Apply.arguments.items
    (sym (ap (node_term c.args.table.now) c.in-Apply.is) ∙ c.term.ensures.value)
