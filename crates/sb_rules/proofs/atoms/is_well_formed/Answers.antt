use Rattle.std.proofs.Common.{ℕ, List, map, sym, ap, ◌∙◌}
use Rattle.sb_proof.specs.declared.atom.Atom as code
use Rattle.sb_proof.specs.declared.atom.Piece.{Piece}
use Rattle.sb_proof.specs.Lines.{atom_in, piece_in}
use Rattle.sb_rulebook.specs.Atoms.{are_pieces, is_well_formed}
use Rattle.sb_rules.proofs.atoms.is_well_formed.Goals as goal

pub returns-in-In : goal.returns-in-In
returns-in-In c =
    c.are_pieces.ensures
    ∙ ap (λ (ps : List Piece). are_pieces (map piece_in ps)) c.as_slice.ensures
    ∙ ap (λ (d : code.Atom ℕ). is_well_formed (atom_in d)) (sym c.in-In.is)
