-- Sizes of RegLan terms: one for each node of sort RegLan, and one for each character of their words.
use Rattle.std.specs.Prelude.{ℕ, ◌+◌, Bool, true, ◌&&◌, nat_le, length}
use Rattle.sb_meaning.specs.Terms.{Term, Terms, word, apply, no_terms, with_term}
use Rattle.sb_meaning.specs.Terms as symbol
use Rattle.sb_script.specs.Pieces.{is_ground}

abbrev mutual
  pub size_of : Term → ℕ
  size_of (word w) = length w
  size_of (apply symbol.str_concat terms) = sizes_of terms
  size_of (apply s terms) = 1 + sizes_of terms
  size_of _ = 0

  pub sizes_of : Terms → ℕ
  sizes_of no_terms = 0
  sizes_of (with_term term terms) = size_of term + sizes_of terms

-- each String term in it is a word within the limit
abbrev mutual
  pub has_short_words : Term → Bool
  has_short_words (word w) = nat_le (length w) 65535
  has_short_words (apply symbol.str_concat terms) = nat_le (sizes_of terms) 65535
  has_short_words (apply s terms) = have_short_words terms
  has_short_words _ = true

  pub have_short_words : Terms → Bool
  have_short_words no_terms = true
  have_short_words (with_term term terms) = has_short_words term && have_short_words terms

-- a RegLan term without constants, within the limits
abbrev pub is_regular : Term → Bool
is_regular t = is_ground t && (has_short_words t && nat_le (size_of t) 1000000)
