use Rattle.std.proofs.Common.{Bool, [], if◌then◌else◌, sym, ap, ◌∙◌}
use Rattle.sb_term.specs.Numbered.{term_at}
use Rattle.sb_fragment.specs.Shapes.{parts_of}
use Rattle.sb_atoms.proofs.reached.connected_parts.Goals as goal

pub returns-then-is_connection-clause-terms : goal.returns-then-is_connection-clause-terms
returns-then-is_connection-clause-terms c =
    let t = term_at c.args.table.now c.args.id in
    c.arguments_of.ensures.terms
    ∙ sym (ap (λ (b : Bool). if b then parts_of t else []) (sym c.is_connection.ensures ∙ c.if-is_connection.true))

pub returns-else-is_connection-clause-terms : goal.returns-else-is_connection-clause-terms
returns-else-is_connection-clause-terms c =
    let t = term_at c.args.table.now c.args.id in
    sym (ap (λ (b : Bool). if b then parts_of t else []) (sym c.is_connection.ensures ∙ c.if-is_connection.false))
