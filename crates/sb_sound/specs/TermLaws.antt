-- What a term comes to before it is translated means what the term means.
use Rattle.std.specs.Prelude.{◌≡◌, ℕ, ◌+ℤ◌, Bool, true, false, ◌&&◌, List, Some, flat_map, slice_get}
use Rattle.sb_word.specs.Words.{are_characters}
use Rattle.sb_meaning.specs.Terms.{Sort, Term, Terms, constant, word, numeral, apply, parameter, no_terms, with_term}
use Rattle.sb_meaning.specs.Values.{Valuation, is_of, value_in}
use Rattle.sb_meaning.specs.Truth.{meaning_of, means_word, means_number}
use Rattle.sb_rulebook.specs.Atoms.{word_of_piece, value_of_sum}
use Rattle.sb_rulebook.specs.AtomRules.{is_declared}
use Rattle.sb_script.specs.Pieces.{Piece, pieces_of}
use Rattle.sb_script.specs.Sums.{Sum, sum_of}

-- the value of each declared constant is of its sort
abbrev pub HasSorts : Valuation → List Sort → Type 0
HasSorts v sorts = (serial : ℕ) (sort : Sort) → slice_get sorts serial ≡ Some sort
    → is_of sort (value_in v serial sort) ≡ true

-- the constants of the term are declared with their sorts, its words are words of characters, and no parameter stands
-- in it
abbrev mutual
  pub fits_sorts : List Sort → Term → Bool
  fits_sorts sorts (constant serial sort) = is_declared sorts sort serial
  fits_sorts sorts (word w) = are_characters w
  fits_sorts sorts (numeral n) = true
  fits_sorts sorts (apply s terms) = all_fit sorts terms
  fits_sorts sorts (parameter place sort) = false

  pub all_fit : List Sort → Terms → Bool
  all_fit sorts no_terms = true
  all_fit sorts (with_term term terms) = fits_sorts sorts term && all_fit sorts terms

-- the pieces of a String term have its word
abbrev pub PiecesKeepWord : Type 0
PiecesKeepWord = (v : Valuation) (sorts : List Sort) (t : Term) (ps : List Piece) → HasSorts v sorts
    → fits_sorts sorts t ≡ true → pieces_of t ≡ Some ps → meaning_of v t ≡ means_word (flat_map (word_of_piece v) ps)

-- the sum of an Int term has its number
abbrev pub SumsKeepNumber : Type 0
SumsKeepNumber = (v : Valuation) (sorts : List Sort) (t : Term) (s : Sum) → HasSorts v sorts
    → fits_sorts sorts t ≡ true → sum_of t ≡ Some s
    → meaning_of v t ≡ means_number (value_of_sum v s.summands +ℤ s.constant)
