-- String terms as pieces: a concatenation of constants and words (SMT-LIB theory of Unicode Strings).
use Rattle.std.specs.Prelude.{ℕ, Bool, true, false, not, ◌&&◌, ◌==◌, nat_le, if◌then◌else◌, List, [], ◌∷◌, ◌++◌, length, Option, Some, None, option_map, option_and_then}
use Rattle.std.specs.List.{list_any}
use Rattle.sb_meaning.specs.Terms.{text, Term, Terms, constant, word, numeral, apply, parameter, no_terms, with_term}
use Rattle.sb_meaning.specs.Terms as symbol

-- a piece of a concatenation
pub data Piece : Type 0 where
  -- a String constant, by its serial
  constant_piece : ℕ → Piece
  word_piece : List ℕ → Piece

-- no constant stands in the term
abbrev mutual
  pub is_ground : Term → Bool
  is_ground (constant serial sort) = false
  is_ground (word w) = true
  is_ground (numeral n) = true
  is_ground (apply s terms) = are_ground terms
  is_ground (parameter place sort) = false

  pub are_ground : Terms → Bool
  are_ground no_terms = true
  are_ground (with_term term terms) = is_ground term && are_ground terms

-- a piece in front of others: an empty word goes, and a word becomes one with a word behind it
abbrev pub onto_pieces : Piece → List Piece → List Piece
onto_pieces (word_piece []) ps = ps
onto_pieces (word_piece (c ∷ v)) (word_piece w ∷ ps) = word_piece ((c ∷ v) ++ w) ∷ ps
onto_pieces p ps = p ∷ ps

abbrev pub before_pieces : List Piece → List Piece → List Piece
before_pieces [] qs = qs
before_pieces (p ∷ ps) qs = onto_pieces p (before_pieces ps qs)

abbrev pub concatenation : List (List Piece) → List Piece
concatenation [] = []
concatenation (ps ∷ rest) = before_pieces ps (concatenation rest)

-- the word of pieces without a constant
abbrev pub word_of : List Piece → Option (List ℕ)
word_of [] = Some []
word_of (word_piece w ∷ []) = Some w
word_of _ = None

-- a word has at most 65,535 characters
abbrev pub is_short : List Piece → Bool
is_short ps = elim (word_of ps) [ Some w ↦ nat_le (length w) 65535 | None ↦ true ]

abbrev pub if_short : List Piece → Option (List Piece)
if_short ps = if is_short ps then Some ps else None

abbrev mutual
  -- the pieces of a String term
  pub pieces_of : Term → Option (List Piece)
  pieces_of (constant serial text) = Some (constant_piece serial ∷ [])
  pieces_of (word w) = if_short (onto_pieces (word_piece w) [])
  pieces_of (apply symbol.str_concat terms) = option_and_then (λ pss. if_short (concatenation pss)) (all_pieces terms)
  pieces_of _ = None

  pub all_pieces : Terms → Option (List (List Piece))
  all_pieces no_terms = Some []
  all_pieces (with_term term terms) =
      option_and_then (λ ps. option_map (λ pss. ps ∷ pss) (all_pieces terms)) (pieces_of term)

abbrev pub is_constant_piece : ℕ → Piece → Bool
is_constant_piece serial (constant_piece other) = serial == other
is_constant_piece serial (word_piece w) = false

-- each constant stands once at most
abbrev pub are_single : List Piece → Bool
are_single [] = true
are_single (constant_piece serial ∷ ps) = not (list_any (is_constant_piece serial) ps) && are_single ps
are_single (word_piece w ∷ ps) = are_single ps

-- the pieces, where each constant stands once at most
abbrev pub single_pieces : Term → Option (List Piece)
single_pieces t = option_and_then (λ ps. if are_single ps then Some ps else None) (pieces_of t)

-- the word of a String term without constants
abbrev pub ground_word : Term → Option (List ℕ)
ground_word t = option_and_then word_of (pieces_of t)

-- the same, of 1,000 characters at most: of such a word the parts are asked for
abbrev pub whole_word : Term → Option (List ℕ)
whole_word t = option_and_then (λ w. if nat_le (length w) 1000 then Some w else None) (ground_word t)
