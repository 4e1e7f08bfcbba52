-- Characters between which the derivative of a regex does not change.
use Rattle.std.specs.Prelude.{◌≡◌, ℕ, ◌≤◌, Bool, true, ◌||◌, nat_le, nat_lt, List, Some, slice_get}
use Rattle.std.specs.List.{list_all}
use Rattle.std.specs.List.Sorted.{IsStrictlyIncreasing}
use Rattle.sb_word.specs.Words.{is_character}
use Rattle.sb_lang.specs.Regex.{Regex}
use Rattle.sb_lang.specs.Derivative.{nd}

-- no point lies above the first number and at or below the second
abbrev pub none_between : List ℕ → ℕ → ℕ → Bool
none_between points c d = list_all (λ p. nat_le p c || nat_lt d p) points

-- characters that ascend, from 0 on
pub record ArePoints (points : List ℕ) : Type 0 where
  pub ascending : IsStrictlyIncreasing points
  pub first : slice_get points 0 ≡ Some 0
  pub characters : list_all is_character points ≡ true

-- the derivative is the same at characters with no point between them
pub record AreCutPoints (r : Regex) (points : List ℕ) : Type 0 where
  pub are_points : ArePoints points
  pub same : (c d : ℕ) → c ≤ d → is_character d ≡ true → none_between points c d ≡ true → nd r c ≡ nd r d
