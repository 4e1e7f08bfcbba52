use Rattle.sb_proof.specs.Lines.{atom_in, piece_in}
use Rattle.sb_proof.specs.declared.atom.Piece as code
use Rattle.sb_refute.proofs.Words.{◌≡◌, ℕ, true, List, map, sym, ap, subst, ◌∙◌, IfOk, AtomOver, IsBareAtom, are_pieces, in_atom, is_well_formed}
use Rattle.sb_refute.proofs.bare.bare_of.Goals as goal

pub member_of-requires : goal.member_of-requires
member_of-requires c =
    ap (λ (ps : List code.Piece). are_pieces (map piece_in ps)) c.as_slice.ensures
    ∙ subst (λ (a : AtomOver ℕ). is_well_formed a ≡ true) (ap atom_in c.in-In.is) c.requires

pub returns-in-In : goal.returns-in-In
returns-in-In c =
    subst (λ (a : AtomOver ℕ). IfOk c.member_of.result (IsBareAtom a)) (sym (ap atom_in c.in-In.is))
    (subst (λ (ps : List code.Piece). IfOk c.member_of.result
    (IsBareAtom (in_atom (map piece_in ps) c.in-In.regex))) c.as_slice.ensures c.member_of.ensures)
