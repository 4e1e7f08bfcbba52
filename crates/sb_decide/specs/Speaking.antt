-- The constants that occur in live assertions at some places.
use Rattle.std.specs.Prelude.{◌≡◌, ℕ, ◌<◌, ◌≤◌, Bool, true, not, ◌&&◌, List, [], ◌∷◌, ◌++◌, length, slice_get, take, Option, Some, None, All}
use Rattle.std.specs.List.{list_all}
use Rattle.sb_meaning.specs.Terms.{Term}
use Rattle.sb_script.specs.Models.{occurs}
use Rattle.sb_term.specs.Descending.{Puts}
use Rattle.sb_term.specs.declared.assertion.Assertion.{Assertion}
use Rattle.sb_term.specs.declared.term.Serial.{Serial}
use Rattle.sb_term.specs.Numbered.{term_at}
use Rattle.sb_decide.specs.Conjoined.{Conjoined, conjoined_at, is_listed}

-- the places of the memberships of these constants
abbrev pub places_of_all : List Conjoined → List Serial → List ℕ
places_of_all cs [] = []
places_of_all cs (serial ∷ serials) = (conjoined_at cs serial.0).places ++ places_of_all cs serials

-- the number passes, if there is one
abbrev pub passes : (ℕ → Bool) → Option ℕ → Bool
passes test None = true
passes test (Some id) = test id

-- so does that of the assertion's term
abbrev pub passes_in : (ℕ → Bool) → Option Assertion → Bool
passes_in test None = true
passes_in test (Some a) = passes test a.term

abbrev pub passes_at : (ℕ → Bool) → List Assertion → ℕ → Bool
passes_at test assertions place = passes_in test (slice_get assertions place)

-- the constant does not occur in the term of this number
abbrev pub is_silent : List Term → ℕ → ℕ → Bool
is_silent ts n id = not (occurs n (term_at ts id))

-- each constant is listed that occurs in an assertion at one of these places, and no other one
abbrev pub Speaks : List Term → List Assertion → List ℕ → List Serial → Type 0
Speaks ts assertions places serials =
    (n : ℕ) → list_all (passes_at (is_silent ts n) assertions) places ≡ not (is_listed serials n)

-- those that occur in the assertions at these places are listed too, and no other ones
abbrev pub Hears : List Term → List Assertion → List ℕ → List Serial → List Serial → Type 0
Hears ts assertions places old new = (n : ℕ)
    → not (is_listed new n) ≡ (not (is_listed old n) && list_all (passes_at (is_silent ts n) assertions) places)

-- Of these places so many first ones were heard: the constants that occur there are listed.
pub record AreHeard (ts : List Term) (assertions : List Assertion) (places : List ℕ) (count : ℕ) (serials : List Serial)
    : Type 0
  where
    pub within : count ≤ length places
    pub speaks : Speaks ts assertions (take count places) serials

-- A term was taken apart: a constant is listed then, or occurs in one of these parts, where it was listed, or occurs in
-- the term; and the parts are among those that are left.
pub record TakesApart (ts : List Term) (term : ℕ) (left more : List ℕ) (serials listed : List Serial) : Type 0 where
  pub parts : List ℕ
  pub below : All (λ i. i < term) parts
  pub puts : Puts left parts more
  pub silent : (n : ℕ) → (not (is_listed listed n) && list_all (is_silent ts n) parts)
      ≡ (not (is_listed serials n) && is_silent ts n term)
