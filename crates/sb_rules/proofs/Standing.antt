-- Which pieces are well formed.
use Rattle.std.proofs.Common.{◌≡◌, ℕ, ◌+◌, ◌<◌, ◌≤◌, ◌==◌, Bool, true, false, ◌&&◌, List, [], ◌∷◌, map, length, drop, get_or, refl, sym, ap, ◌∙◌, arith}
use Rattle.std.proofs.lemmas.Bool.{and_parts, and_right, false≢true}
use Rattle.std.proofs.lemmas.Bool.Decides.{nat_tests}
use Rattle.std.proofs.lemmas.List.{at_drop_more, at_drop_all}
use Rattle.sb_word.specs.Words.{are_characters}
use Rattle.sb_script.specs.Pieces.{Piece, constant_piece, word_piece}
use Rattle.sb_rulebook.specs.Atoms.{are_pieces}
use Rattle.sb_proof.specs.declared.atom.Piece as code
use Rattle.sb_proof.specs.Lines.{piece_in}
use Rattle.sb_rules.specs.Stepping.{is_full, may_stand, is_word_piece, may_follow}

-- A word.

pub full_none : (w : List ℕ) → (length w == 0) ≡ true → false ≡ is_full w
full_none [] h = refl
full_none (c ∷ w) h = absurd (grind (arith, nat_tests))

pub full_some : (w : List ℕ) → (length w == 0) ≡ false → are_characters w ≡ is_full w
full_some [] h = absurd (grind (arith, nat_tests))
full_some (c ∷ w) h = refl

-- the characters of a word in front of other pieces
pub front_characters : (w : List ℕ) (ps : List Piece) → are_pieces (word_piece w ∷ ps) ≡ true
    → are_characters w ≡ true
front_characters [] ps h = absurd (false≢true h)
front_characters (c ∷ w) [] h = (and_parts (are_characters (c ∷ w)) true h).0
front_characters (c ∷ w) (constant_piece serial ∷ ps) h = (and_parts (are_characters (c ∷ w)) (are_pieces ps) h).0
front_characters (c ∷ w) (word_piece v ∷ ps) h = absurd (false≢true h)

-- Pieces are well formed where each may stand behind the one before it.

pub pieces_follow : (ps : List Piece) → may_follow false ps ≡ are_pieces ps
pieces_follow [] = refl
pieces_follow (constant_piece serial ∷ ps) = pieces_follow ps
pieces_follow (word_piece [] ∷ ps) = refl
pieces_follow (word_piece (c ∷ w) ∷ []) = refl
pieces_follow (word_piece (c ∷ w) ∷ constant_piece serial ∷ ps) =
    ap (λ b. are_characters (c ∷ w) && b) (pieces_follow ps)
pieces_follow (word_piece (c ∷ w) ∷ word_piece v ∷ ps) =
    and_right (are_characters (c ∷ w)) false refl

-- one piece after the other
module _ (ps : List code.Piece) (i : ℕ) (p : code.Piece) (behind b : Bool) (low : i < length ps)
    (is : p ≡ get_or ps i p)
    (so : may_follow behind (map piece_in (drop i ps)) ≡ are_pieces (map piece_in ps))
    (stands : b ≡ may_stand behind (piece_in p)) where
  abbrev rest : List Piece
  rest = map piece_in (drop (i + 1) ps)

  at_piece : (b && may_follow (is_word_piece (piece_in p)) rest) ≡ are_pieces (map piece_in ps)
  at_piece =
      ap (λ t. t && may_follow (is_word_piece (piece_in p)) rest) stands
      ∙ ap (λ (q : code.Piece). may_stand behind (piece_in q) && may_follow (is_word_piece (piece_in q)) rest) is
      ∙ sym (at_drop_more (λ qs. may_follow behind (map piece_in qs)) ps i p low) ∙ so

  pub follow_stops : b ≡ false → false ≡ are_pieces (map piece_in ps)
  follow_stops h = ap (λ t. t && may_follow (is_word_piece (piece_in p)) rest) (sym h) ∙ at_piece

  pub follow_more : (next : Bool) → b ≡ true → next ≡ is_word_piece (piece_in p)
      → may_follow next (map piece_in (drop (i + 1) ps)) ≡ are_pieces (map piece_in ps)
  follow_more next h e =
      ap (λ t. may_follow t rest) e
      ∙ ap (λ t. t && may_follow (is_word_piece (piece_in p)) rest) (sym h) ∙ at_piece

pub follow_ends : (ps : List code.Piece) (i : ℕ) (behind : Bool) → length ps ≤ i
    → may_follow behind (map piece_in (drop i ps)) ≡ are_pieces (map piece_in ps)
    → true ≡ are_pieces (map piece_in ps)
follow_ends ps i behind past so = sym (at_drop_all (λ qs. may_follow behind (map piece_in qs)) ps i past) ∙ so
