use Rattle.std.proofs.Common.{Some, map}
use Rattle.sb_theory.proofs.Words.{◌∙◌, List, ap, ℕ, in_atom}
use Rattle.sb_rulebook.specs.Atoms.{are_pieces}
use Rattle.sb_proof.specs.Lines.{atom_in, piece_in}
use Rattle.sb_proof.specs.declared.atom.Atom.{Atom}
use Rattle.sb_proof.specs.declared.atom.Piece.{Piece as Part}
use Rattle.sb_theory.proofs.joined.fits_pieces.Goals as goal

pub contains_joined-requires : goal.contains_joined-requires
contains_joined-requires c =
    let names = c.describe.ensures.names ∙ ap (λ (a : Atom ℕ). Some (atom_in a)) c.in-In.is in
    let a = in_atom (map piece_in c.in-In.pieces.items) c.in-In.regex in
    record {
      known = c.requires.regexes c.of-id.result a names;
      formed = ap (λ (ps : List Part). are_pieces (map piece_in ps)) c.as_slice.ensures
          ∙ c.requires.formed c.of-id.result a names;
      store = c.requires.store;
    }
