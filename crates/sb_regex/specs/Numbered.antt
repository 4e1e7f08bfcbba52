-- Regexes by their numbers in a list.
use Rattle.std.specs.Prelude.{◌≡◌, ℕ, ◌<◌, Some, List, ◌++◌, length, slice_get, get_or, map, All}
use Rattle.sb_lang.specs.Regex.{Regex, none}

-- the regex of a number that is below the length
abbrev pub regex_at : List Regex → ℕ → Regex
regex_at rs i = get_or rs i none

abbrev pub regexes_at : List Regex → List ℕ → List Regex
regexes_at rs is = map (regex_at rs) is

-- the number is of this regex
abbrev pub Names : List Regex → ℕ → Regex → Type 0
Names rs i r = slice_get rs i ≡ Some r

-- each is the number of some regex
abbrev pub AllNumbers : List Regex → List ℕ → Type 0
AllNumbers rs is = All (λ i. i < length rs) is

-- the old regexes keep their numbers
pub record Extends (old new : List Regex) : Type 0 where
  pub more : List Regex
  pub is : new ≡ old ++ more

-- each regex has one number
abbrev pub AreDistinct : List Regex → Type 0
AreDistinct rs = (i j : ℕ) → i < length rs → j < length rs → regex_at rs i ≡ regex_at rs j → i ≡ j
