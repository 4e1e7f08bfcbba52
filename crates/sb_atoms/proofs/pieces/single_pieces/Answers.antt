use Rattle.std.proofs.Common.{map, Some, sym, ap, ◌∙◌}
use Rattle.sb_term.specs.Numbered.{term_at}
use Rattle.sb_problem.specs.Parts as problem
use Rattle.sb_proof.specs.Lines.{piece_in}
use Rattle.sb_atoms.proofs.PieceFacts.{found_pieces}
use Rattle.sb_atoms.proofs.pieces.single_pieces.Goals as goal

pub returns-in_default-clause-ok : goal.returns-in_default-clause-ok
returns-in_default-clause-ok c = let none = rw c.in_default.is at c.in_ok-parts.ensures.ok in sym none

pub returns-clause-ok : goal.returns-clause-ok
returns-clause-ok c =
    let found = rw c.in-Some.is at c.in_ok-parts.ensures.ok in
    let written = rw c.in-Some.is at c.in_ok-parts.ensures.written in
    let same = c.in_ok-pieces.ensures ∙ ap problem.parts_in c.deref.ensures.value in
    found_pieces (term_at c.args.table.now c.args.id) (map piece_in c.in_ok-pieces.pieces.items)
    (sym found ∙ ap Some (sym same)) (ap problem.are_written same ∙ written)
