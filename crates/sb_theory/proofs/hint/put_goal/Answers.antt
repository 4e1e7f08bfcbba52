use Rattle.std.proofs.Common.{Some, map}
use Rattle.sb_theory.proofs.Words.{◌∙◌, List, ap, ℕ, in_atom}
use Rattle.sb_rulebook.specs.Atoms.{are_pieces}
use Rattle.sb_proof.specs.Lines.{atom_in, piece_in}
use Rattle.sb_proof.specs.declared.atom.Atom.{Atom}
use Rattle.sb_proof.specs.declared.atom.Piece.{Piece as Part}
use Rattle.sb_theory.proofs.hint.put_goal.Goals as goal

pub put_pieces-requires : goal.put_pieces-requires
put_pieces-requires c =
    ap (λ (ps : List Part). are_pieces (map piece_in ps)) c.as_slice.ensures
    ∙ c.requires.formed c.of.result (in_atom (map piece_in c.in-In.pieces.items) c.in-In.regex)
    (c.describe.ensures.names ∙ ap (λ (a : Atom ℕ). Some (atom_in a)) c.in-In.is)

pub put_goal-requires : goal.put_goal-requires
put_goal-requires c = record {
  known = c.requires.regexes c.of.result (in_atom (map piece_in c.in-In.pieces.items) c.in-In.regex)
      (c.describe.ensures.names ∙ ap (λ (a : Atom ℕ). Some (atom_in a)) c.in-In.is);
}
