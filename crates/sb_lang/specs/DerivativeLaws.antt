-- Laws of nullability and of the derivative, of all regexes.
use Rattle.std.specs.Prelude.{◌≡◌, ℕ, Bool, true, false, List, [], ◌∷◌, ◌++◌}
use Rattle.sb_class.specs.Ranges.{in_ranges}
use Rattle.sb_word.specs.Words.{is_character, IsWord}
use Rattle.sb_lang.specs.Regex.{Regex, Regexes, none, eps, set, cat, alt, and, neg, star, rep, path, no_more, more}
use Rattle.sb_lang.specs.Derivative.{nullable, nd, nd_along}
use Rattle.sb_lang.specs.Language.{language}

-- a regex is nullable where its language has the empty word
abbrev pub NullableHasEmptyWord : Type 0
NullableHasEmptyWord = (r : Regex) → nullable r ≡ language r []

-- the derivative by a character has the words that stand behind it in the language
abbrev pub DerivativeHasRests : Type 0
DerivativeHasRests = (r : Regex) (c : ℕ) (w : List ℕ) → language (nd r c) w ≡ language r (c ∷ w)

-- and the derivative along a word those that stand behind the word
abbrev pub DerivativeAlongHasRests : Type 0
DerivativeAlongHasRests = (r : Regex) (u w : List ℕ) → language (nd_along r u) w ≡ language r (u ++ w)

-- no set of the regex has one of the two characters alone
unfoldable mutual
  pub SameSets : ℕ → ℕ → Regex → Type 0
  SameSets c d none = Unit {0}
  SameSets c d eps = Unit {0}
  SameSets c d (set rs) = in_ranges rs c ≡ in_ranges rs d
  SameSets c d (cat a b) = SameSets c d a × SameSets c d b
  SameSets c d (alt ps) = AllSameSets c d ps
  SameSets c d (and ps) = AllSameSets c d ps
  SameSets c d (neg a) = SameSets c d a
  SameSets c d (star a) = SameSets c d a
  SameSets c d (rep a n m) = SameSets c d a
  SameSets c d (path a b) = SameSets c d a

  pub AllSameSets : ℕ → ℕ → Regexes → Type 0
  AllSameSets c d no_more = Unit {0}
  AllSameSets c d (more r rs) = SameSets c d r × AllSameSets c d rs

-- by two characters that no set tells apart the derivative is the same
abbrev pub DerivativeIsBySets : Type 0
DerivativeIsBySets = (r : Regex) (c d : ℕ) → SameSets c d r → nd r c ≡ nd r d

-- regexes that are not nullable, among which the derivative by each character stays, have no word
abbrev pub ClosedWithoutEmptyWordIsEmpty : Type 0
ClosedWithoutEmptyWordIsEmpty =
    (member : Regex → Bool) →
    ((r : Regex) → member r ≡ true → nullable r ≡ false) →
    ((r : Regex) (c : ℕ) → member r ≡ true → is_character c ≡ true → member (nd r c) ≡ true) →
    (r : Regex) (w : List ℕ) → member r ≡ true → IsWord w → language r w ≡ false
