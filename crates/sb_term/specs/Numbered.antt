-- Terms by their numbers in a list.
use Rattle.std.specs.Prelude.{◌≡◌, ℕ, ◌<◌, Some, List, [], ◌++◌, length, slice_get, get_or, map, All}
use Rattle.sb_meaning.specs.Terms.{Term, word}

-- the term of a number that is below the length
abbrev pub term_at : List Term → ℕ → Term
term_at ts i = get_or ts i (word [])

abbrev pub terms_at : List Term → List ℕ → List Term
terms_at ts is = map (term_at ts) is

-- the number is of this term
abbrev pub Names : List Term → ℕ → Term → Type 0
Names ts i t = slice_get ts i ≡ Some t

-- each is the number of some term
abbrev pub AllNumbers : List Term → List ℕ → Type 0
AllNumbers ts is = All (λ i. i < length ts) is

-- the old terms keep their numbers
pub record Extends (old new : List Term) : Type 0 where
  pub more : List Term
  pub is : new ≡ old ++ more

-- each term has one number
abbrev pub AreDistinct : List Term → Type 0
AreDistinct ts = (i j : ℕ) → i < length ts → j < length ts → term_at ts i ≡ term_at ts j → i ≡ j
