use Rattle.sb_proof.specs.declared.atom.Atom as code
use Rattle.sb_split.proofs.Words.{◌≡◌, ◌∙◌, ap, map, subst, sym, true, ℕ, IfOk, IsFrontOf, are_pieces, atom_in, in_atom, is_well_formed, piece_in}
use Rattle.sb_split.proofs.fronts.front_of.Goals as goal

pub front_of_pieces-requires : goal.front_of_pieces-requires
front_of_pieces-requires c =
    ap (λ ps. are_pieces (map piece_in ps)) c.as_slice.ensures
    ∙ subst (λ (d : code.Atom ℕ). is_well_formed (atom_in d) ≡ true) c.in-In.is c.requires

pub returns-in-In : goal.returns-in-In
returns-in-In c =
    subst (λ a. IfOk c.front_of_pieces.result (IsFrontOf a))
    (ap (λ ps. in_atom (map piece_in ps) c.in-In.regex) c.as_slice.ensures ∙ ap atom_in (sym c.in-In.is))
    c.front_of_pieces.ensures
