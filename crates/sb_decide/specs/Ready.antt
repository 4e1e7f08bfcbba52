-- A check whose assertions are all taken in: each constant has a word by its memberships alone, or occurs in an
-- assertion of other structure; what a search is asked about; and what words it leaves.
use Rattle.std.specs.Prelude.{◌≡◌, ◌⊎◌, ℕ, ◌<◌, Bool, true, false, List, [], length, slice_get, Option, Some, IsSome, is_some, Contains}
use Rattle.std.specs.List.{All, list_all, list_any}
use Rattle.sb_lang.specs.Least.{IsShortestLeast}
use Rattle.sb_meaning.specs.Terms.{Term}
use Rattle.sb_meaning.specs.Truth.{holds}
use Rattle.sb_script.specs.Models.{is_plain, occurs, AreShortestLeast}
use Rattle.sb_script.specs.Verdicts.{IsVerdict, is_unsat, is_outside}
use Rattle.sb_script.specs.State.{Assumption, asserted, live, live_terms}
use Rattle.sb_script.specs.Fragment.{is_decided}
use Rattle.sb_store.specs.Stores.{Grows}
use Rattle.sb_stack.specs.Speaking.{speaks_of}
use Rattle.sb_stack.specs.Stacked.{Stacked, state_of, live_constants, values_at, are_words}
use Rattle.sb_term.specs.declared.term.Serial.{Serial}
use Rattle.sb_decide.specs.declared.decide.Decider.{Decider}
use Rattle.sb_decide.specs.declared.decide.Decided.{Decided}
use Rattle.sb_decide.specs.declared.decide.Decided.TheVariants as decided
use Rattle.sb_decide.specs.Conjoined.{is_listed}
use Rattle.sb_decide.specs.Deciding.{word_at}
use Rattle.sb_decide.specs.Knowing.{Knows}
use Rattle.sb_decide.specs.Members.{words_in}
use Rattle.sb_decide.specs.Places.{asks_of, IsPlaceOf, HasNoWordAt}
use Rattle.sb_decide.specs.Taking.{HasAll, AreFound, word_found}

-- the constant occurs in a live assertion at one of these places
pub record IsSpoken (places : List ℕ) (s : Stacked) (serial : ℕ) : Type 0 where
  pub place : ℕ
  pub term : Term
  pub other : Contains places place
  pub there : slice_get (live (state_of s)) place ≡ Some (asserted term)
  pub occurring : occurs serial term ≡ true

-- The constants are those that occur in a live assertion at one of these places.
pub record AreSpoken (places : List ℕ) (s : Stacked) (serials : List Serial) : Type 0 where
  pub each : (serial : ℕ) → IsSpoken places s serial → is_listed serials serial ≡ true
  pub only : (serial : ℕ) → is_listed serials serial ≡ true → IsSpoken places s serial

-- Each assertion is a decided one and taken in, the constants that occur in those of other structure are known, and
-- each constant that changed has a word by its memberships alone, but for those that are left to a search, each of
-- which is one of these.
pub record IsReady (kept : Decider) (stack : Stacked) : Type 0 where
  pub decided : list_all is_decided (live (state_of stack)) ≡ true
  pub named : list_all (speaks_of (live_constants stack)) (live_terms (state_of stack)) ≡ true
  pub all : HasAll kept stack
  pub knows : Knows kept stack
  pub found : AreFound kept.store.arena kept.members.items kept.constants.items stack.words kept.changed.items
      kept.found.items
  pub spoken : AreSpoken kept.others.items stack kept.spoken.keys
  pub left : All (λ serial. IsSpoken kept.others.items stack serial.0) kept.left.items

-- Not each assertion is a decided one; or a constant has no word, so no values make the assertions true, whatever is
-- assumed; or the check is ready.
abbrev pub IsDecided : Decider → Stacked → Decided → Type 0
IsDecided kept stack decided.Outside = (given : List Assumption) → IsVerdict (state_of stack) given is_outside
IsDecided kept stack decided.Dead =
    IsSome kept.dead × ((given : List Assumption) → IsVerdict (state_of stack) given (is_unsat []))
IsDecided kept stack decided.Ready = IsReady kept stack

-- Words of the constants that changed are looked for: each has one, or one has none.
pub record FindsWords (old new : Decider) (stack : Stacked) (found : Bool) : Type 0 where
  pub knows : Knows new stack
  pub all : HasAll new stack
  pub ready : found ≡ true → IsReady new stack
  pub dead : found ≡ false → is_some new.dead ≡ true
  pub store : Grows stack.table old.store new.store

-- Some memberships of one constant, with its equalities with literals, and what denies such: no word is in all that
-- they ask for.
pub record IsClash (s : Stacked) (places : List ℕ) : Type 0 where
  pub below : All (λ place. place < length s.assertions) places
  pub serial : ℕ
  pub are : All (IsPlaceOf (live (state_of s)) serial) places
  pub none : HasNoWordAt (live (state_of s)) places

-- a live assertion about the constant alone, at the place
pub record IsAbout (s : Stacked) (place serial : ℕ) : Type 0 where
  pub term : Term
  pub there : slice_get (live (state_of s)) place ≡ Some (asserted term)
  pub asks : asks_of serial term ≡ true

-- the constant occurs in no live assertion at these places
abbrev pub OccursNowhereAt : Stacked → List ℕ → ℕ → Type 0
OccursNowhereAt s places serial = (place : ℕ) (t : Term) → Contains places place
    → slice_get (live (state_of s)) place ≡ Some (asserted t) → occurs serial t ≡ false

-- What a search is asked about, where the others are those of other structure: all of these, and the live assertions
-- that ask something of the word of one constant alone, which occurs in one of these, and no more. So a live assertion
-- that it is not asked about is one about the word of a constant that occurs in none that it is asked about, and of a
-- plain script there are none.
pub record IsQuestion (others : List ℕ) (s : Stacked) (places : List ℕ) : Type 0 where
  pub below : All (λ place. place < length s.assertions) places
  pub asked : (place : ℕ) → Contains others place → Contains places place
  pub only : (place : ℕ) → Contains places place
      → Contains others place ⊎ ((serial : ℕ) × IsAbout s place serial × IsSpoken others s serial)
  pub rest : (place : ℕ) → place < length s.assertions
      → Contains places place ⊎ ((serial : ℕ) × IsAbout s place serial × OccursNowhereAt s places serial)
  pub plain : is_plain (state_of s) ≡ true → places ≡ []

-- Words of all constants: of each that occurs in an assertion of other structure the one that was found, the empty one
-- where none was, and of each other one the least word of its memberships. So these are true, where it occurs nowhere
-- its word is the empty one, and in a plain script the words are the shortest, and the least of these.
pub record IsClosed (kept : Decider) (s : Stacked) (found : List (Option (List ℕ))) (words : List (List ℕ)) : Type 0
  where
    pub characters : are_words words ≡ true
    pub long : length words ≡ length s.scope.sorts
    pub given : (serial : ℕ) → IsSpoken kept.others.items s serial → word_at words serial ≡ word_found found serial
    pub least : (serial : ℕ) → (IsSpoken kept.others.items s serial → ⊥)
        → IsShortestLeast (words_in kept.store.arena kept.members.items serial) (word_at words serial)
    pub demands : (serial place : ℕ) (t : Term) (truths : List Bool) → (IsSpoken kept.others.items s serial → ⊥)
        → slice_get (live (state_of s)) place ≡ Some (asserted t) → asks_of serial t ≡ true
        → holds t (values_at (live_constants s) words truths) ≡ true
    pub defaults : (serial : ℕ) → (IsSpoken kept.others.items s serial → ⊥)
        → list_any (occurs serial) (live_terms (state_of s)) ≡ false → word_at words serial ≡ []
    pub plain : is_plain (state_of s) ≡ true → (truths : List Bool)
        → AreShortestLeast (live_terms (state_of s)) (values_at (live_constants s) words truths)
