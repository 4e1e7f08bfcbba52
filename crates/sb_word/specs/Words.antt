-- Characters and words (SMT-LIB theory of Unicode Strings: a character is a number from 0 to 0x2ffff,
-- a word is a finite list of them).
use Rattle.std.specs.Prelude.{◌≡◌, ℕ, Bool, true, false, nat_le, List, slice_get, Some, take}
use Rattle.std.specs.List.{list_all}

-- the number is a character
abbrev pub is_character : ℕ → Bool
is_character c = nat_le c 0x2ffff

-- each number is a character
abbrev pub are_characters : List ℕ → Bool
are_characters codes = list_all is_character codes

-- the numbers are a word
abbrev pub IsWord : List ℕ → Type 0
IsWord codes = are_characters codes ≡ true

-- the first number that is no character stands at the place
pub record IsFirstOutside (codes : List ℕ) (place : ℕ) : Type 0 where
  pub code : ℕ
  pub there : slice_get codes place ≡ Some code
  pub outside : is_character code ≡ false
  pub before : are_characters (take place codes) ≡ true
