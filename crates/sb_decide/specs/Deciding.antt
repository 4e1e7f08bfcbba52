-- What a check finds on the way: for each constant the regexes of what is asked of its word, and its word.
use Rattle.std.specs.Prelude.{◌≡◌, ℕ, true, if◌then◌else◌, List, [], ◌∷◌, length, get_or}
use Rattle.std.specs.List.{list_all}
use Rattle.sb_word.specs.Words.{IsWord}
use Rattle.sb_lang.specs.Languages.{Language}
use Rattle.sb_lang.specs.Language.{language}
use Rattle.sb_lang.specs.Regex.{Regex}
use Rattle.sb_regex.specs.Numbered.{regex_at}
use Rattle.sb_meaning.specs.Terms.{Term, text}
use Rattle.sb_meaning.specs.Values.{Valuation, Text, value_in}
use Rattle.sb_meaning.specs.Truth.{all_hold}
use Rattle.sb_script.specs.State.{Assertion, terms_in}
use Rattle.sb_stack.specs.Stacked.{are_words}
use Rattle.sb_decide.specs.Places.{asks_of}

-- the terms that ask something of the constant's word: its memberships, its equalities with literals, and these denied
abbrev pub asking : ℕ → List Term → List Term
asking serial [] = []
asking serial (t ∷ ts) = if asks_of serial t then t ∷ asking serial ts else asking serial ts

-- the words that make all of them true
abbrev pub words_asked : ℕ → List Term → Language
words_asked serial ts w = all_hold (asking serial ts) ((serial, Text w) ∷ [])

-- the words that all the regexes have
abbrev pub in_each : List Regex → List ℕ → Language
in_each rs ids w = list_all (λ id. language (regex_at rs id) w) ids

abbrev pub word_at : List (List ℕ) → ℕ → List ℕ
word_at words n = get_or words n []

-- What is known after these assertions: the words that a constant is asked for are those of its regexes, and whether
-- what is asked of its word is true depends on no other value. A constant that they don't speak of may have any word.
pub record IsSofar (rs : List Regex) (assertions : List Assertion) (found : ℕ → List ℕ) : Type 0 where
  pub words : (n : ℕ) (w : List ℕ) → IsWord w → words_asked n (terms_in assertions) w ≡ in_each rs (found n) w
  pub apart : (v : Valuation) (n : ℕ) (w : List ℕ) → value_in v n text ≡ Text w
      → all_hold (asking n (terms_in assertions)) v ≡ words_asked n (terms_in assertions) w

-- so many words, of which those that are new are empty
pub record AreFilled (count : ℕ) (old new : List (List ℕ)) : Type 0 where
  pub long : length new ≡ count
  pub same : (n : ℕ) → word_at new n ≡ word_at old n
  pub characters : are_words old ≡ true → are_words new ≡ true
