use Rattle.std.proofs.Common.{◌∙◌}
use Rattle.sb_term.specs.Numbered.{term_at}
use Rattle.sb_atoms.proofs.Connections.{asked_is, shape_is}
use Rattle.sb_atoms.proofs.reached.is_connection.Goals as goal

pub returns-in-Some : goal.returns-in-Some
returns-in-Some c = asked_is (term_at c.args.table.now c.args.id) _ _ c.in-Some.ensures.parts

pub returns-in-None : goal.returns-in-None
returns-in-None c =
    c.is_connective.ensures
    ∙ shape_is (term_at c.args.table.now c.args.id) c.shape_of.result c.shape_of.ensures c.requires.structure
