-- The places of the assertions that ask something of a constant's word, and that no word is in all of their regexes.
use Rattle.std.specs.Prelude.{◌≡◌, ℕ, Bool, true, false, ◌&&◌, ◌==◌, List, [], ◌∷◌, slice_get, Some, None}
use Rattle.std.specs.List.{list_all}
use Rattle.sb_word.specs.Words.{IsWord}
use Rattle.sb_lang.specs.Regex.{Regex}
use Rattle.sb_lang.specs.Language.{language}
use Rattle.sb_lang.specs.Normal.{normal}
use Rattle.sb_lang.specs.RegLan.{RegLan}
use Rattle.sb_meaning.specs.Terms.{Term}
use Rattle.sb_meaning.specs.Values.{Valuation}
use Rattle.sb_meaning.specs.Truth.{meaning_of, means_reglan}
use Rattle.sb_script.specs.Fragment.{fits, is_decided}
use Rattle.sb_script.specs.State.{Assertion, asserted, a_mark}
use Rattle.sb_decide.specs.Demands.{demanded, is_demand}

-- the term asks something of the constant's word alone: it is a membership of the constant, or its equality with a
-- literal, or one of these denied
abbrev pub asks_of : ℕ → Term → Bool
asks_of serial t = elim (demanded t) [ Some p ↦ serial == p.0 | None ↦ false ]

-- the assertion asks something of one constant's word alone, and it is a decided one
abbrev pub is_member : Assertion → Bool
is_member (asserted t) = is_demand t && fits t
is_member a_mark = false

-- The assertion at the place asks something of the constant's word alone, and it is a decided one.
pub record IsPlaceOf (live : List Assertion) (serial place : ℕ) : Type 0 where
  pub term : Term
  pub regex : Term
  pub there : slice_get live place ≡ Some (asserted term)
  pub asks : demanded term ≡ Some (serial, regex)
  pub decided : is_decided (asserted term) ≡ true

-- The regex is the normal one of what the assertion at the place asks of a constant's word.
pub record IsRegexAt (live : List Assertion) (place : ℕ) (r : Regex) : Type 0 where
  pub term : Term
  pub serial : ℕ
  pub expression : Term
  pub reglan : RegLan
  pub there : slice_get live place ≡ Some (asserted term)
  pub asks : demanded term ≡ Some (serial, expression)
  pub means : (v : Valuation) → meaning_of v expression ≡ means_reglan reglan
  pub is : r ≡ normal reglan

-- the regexes are those of what the assertions at these places ask, in order
abbrev pub AreRegexesAt : List Assertion → List ℕ → List Regex → Type 0
AreRegexesAt live [] [] = Unit {0}
AreRegexesAt live (place ∷ places) (r ∷ rs) = IsRegexAt live place r × AreRegexesAt live places rs
AreRegexesAt live _ _ = ⊥

-- no word is in all regexes of what the assertions at these places ask
abbrev pub HasNoWordAt : List Assertion → List ℕ → Type 0
HasNoWordAt live places = (rs : List Regex) → AreRegexesAt live places rs → (w : List ℕ) → IsWord w
    → list_all (λ r. language r w) rs ≡ false
