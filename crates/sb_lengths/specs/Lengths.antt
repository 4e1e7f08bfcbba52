-- Which lengths the words of a language have.
use Rattle.std.specs.Prelude.{◌≡◌, ℕ, Bool, true, ◌&&◌, ◌||◌, nat_le, nat_lt, List, length}
use Rattle.sb_word.specs.Words.{IsWord}
use Rattle.sb_lang.specs.Languages.{Language}
use Rattle.sb_lengths.specs.declared.Lengths.{Lengths}
use Rattle.sb_lengths.specs.LengthSets.{has}

-- some word of the length may be in the language; nothing is said of lengths from 64 on
abbrev pub may : Lengths → ℕ → Bool
may lengths n = nat_le 64 n || has lengths.possible n

-- each word of the length is in the language
abbrev pub must : Lengths → ℕ → Bool
must lengths n = nat_lt n 64 && has lengths.certain n

-- what is said is true of the language
pub record AreLengths (lengths : Lengths) (language : Language) : Type 0 where
  pub possible : (w : List ℕ) → IsWord w → language w ≡ true → may lengths (length w) ≡ true
  pub certain : (w : List ℕ) → IsWord w → must lengths (length w) ≡ true → language w ≡ true
