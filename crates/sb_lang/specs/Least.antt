-- The word of a language that a model gives, and languages without a word. Words are lists of characters.
use Rattle.std.specs.Prelude.{◌≡◌, ◌≢◌, ℕ, ◌≤◌, true, false, List, length}
use Rattle.std.specs.Ordering.{nat_cmp}
use Rattle.std.specs.Cmp.Lexicographic.{slice_cmp}
use Rattle.std.specs.declared.cmp.Ordering.TheVariants.{Less}
use Rattle.sb_word.specs.Words.{IsWord}
use Rattle.sb_lang.specs.Languages.{Language}

-- The word is in the language, no word of the language is shorter, and none as long is less by code points.
pub record IsShortestLeast (language : Language) (w : List ℕ) : Type 0 where
  pub word : IsWord w
  pub member : language w ≡ true
  pub shortest : (v : List ℕ) → IsWord v → language v ≡ true → length w ≤ length v
  pub least : (v : List ℕ) → IsWord v → language v ≡ true → length v ≡ length w → slice_cmp nat_cmp v w ≢ Less

-- no word is in the language
abbrev pub HasNoWord : Language → Type 0
HasNoWord language = (w : List ℕ) → IsWord w → language w ≡ false
