-- The regexes of parts of words have the words that the tests say, and they are normal.
use Rattle.std.specs.Prelude.{◌≡◌, ℕ, true, List}
use Rattle.sb_word.specs.Words.{are_characters}
use Rattle.sb_lang.specs.Affixes.{is_prefix, is_suffix, is_inside, beginning_with, ending_with, containing, prefixes, suffixes, factors}
use Rattle.sb_lang.specs.Language.{language}
use Rattle.sb_lang.specs.NormalForm.{IsNormal}

pub record AffixesHaveTheirWords : Type 0 where
  pub beginnings : (w v : List ℕ) → language (beginning_with w) v ≡ is_prefix w v
  pub endings : (w v : List ℕ) → language (ending_with w) v ≡ is_suffix w v
  pub holders : (w v : List ℕ) → language (containing w) v ≡ is_inside w v
  pub prefixes_of : (w v : List ℕ) → language (prefixes w) v ≡ is_prefix v w
  pub suffixes_of : (w v : List ℕ) → language (suffixes w) v ≡ is_suffix v w
  pub factors_of : (w v : List ℕ) → language (factors w) v ≡ is_inside v w

-- of words of characters
pub record AffixesAreNormal : Type 0 where
  pub beginnings : (w : List ℕ) → are_characters w ≡ true → IsNormal (beginning_with w)
  pub endings : (w : List ℕ) → are_characters w ≡ true → IsNormal (ending_with w)
  pub holders : (w : List ℕ) → are_characters w ≡ true → IsNormal (containing w)
  pub prefixes_of : (w : List ℕ) → are_characters w ≡ true → IsNormal (prefixes w)
  pub suffixes_of : (w : List ℕ) → are_characters w ≡ true → IsNormal (suffixes w)
  pub factors_of : (w : List ℕ) → are_characters w ≡ true → IsNormal (factors w)
