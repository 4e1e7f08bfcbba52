-- Pieces that are copied.
use Rattle.std.proofs.Common.{◌≡◌, ℕ, ◌+◌, ◌<◌, ◌≤◌, List, [], ◌∷◌, ◌++◌, length, map, take, get_or, sym, ap, ap₂, ◌∙◌}
use Rattle.std.proofs.lemmas.List.{map-append, take_more, take_all}
use Rattle.sb_script.specs.Pieces as pieces
use Rattle.sb_proof.specs.declared.atom.Piece.{Piece}
use Rattle.sb_proof.specs.Lines.{piece_in}

pub piece_more : (ps : List Piece) (i : ℕ) (d : Piece) (now new : List Piece) (p : Piece) → i < length ps
    → map piece_in now ≡ map piece_in (take i ps) → piece_in p ≡ piece_in (get_or ps i d) → new ≡ now ++ p ∷ []
    → map piece_in new ≡ map piece_in (take (i + 1) ps)
piece_more ps i d now new p within before is pushed =
    ap (map piece_in) pushed
    ∙ map-append piece_in now (p ∷ [])
    ∙ ap₂ (λ (xs : List pieces.Piece) (x : pieces.Piece). xs ++ x ∷ []) before is
    ∙ sym (map-append piece_in (take i ps) (get_or ps i d ∷ []))
    ∙ ap (map piece_in) (sym (take_more ps i d within))

pub pieces_done : (ps : List Piece) (i : ℕ) (all : List Piece) → length ps ≤ i
    → map piece_in all ≡ map piece_in (take i ps) → map piece_in all ≡ map piece_in ps
pieces_done ps i all past before = before ∙ ap (map piece_in) (take_all i ps past)
