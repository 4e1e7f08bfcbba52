-- Private: the states of a walk over the members of derivatives along a word.
use Rattle.std.specs.Prelude.{◌≡◌, ℕ, ◌<◌, ◌≤◌, ◌+◌, Bool, true, false, List, [], ◌∷◌, ◌++◌, length, drop}
use Rattle.std.specs.List.{list_any}
use Rattle.sb_lang.specs.Regex.{Regex}
use Rattle.sb_lang.specs.Language.{language}
use Rattle.sb_regex.specs.Numbered.{regex_at, AllNumbers, Extends}
use Rattle.sb_plain.specs.declared.walk.State.{State}
use Rattle.sb_plain.specs.Memory.{Learnt, Failed, LearntIsRight, AreFailed}

-- the word is in the language of some of these
abbrev pub in_some : List Regex → List ℕ → List ℕ → Bool
in_some rs ns u = list_any (λ n. language (regex_at rs n) u) ns

-- what stands from the state's place on is a word of its regex
abbrev pub state_matches : List Regex → List ℕ → State → Bool
state_matches rs codes s = language (regex_at rs s.regex) (drop s.place codes)

abbrev pub some_matches : List Regex → List ℕ → List State → Bool
some_matches rs codes states = list_any (state_matches rs codes) states

-- its number and its place are there
pub record IsState (rs : List Regex) (codes : List ℕ) (s : State) : Type 0 where
  pub known : s.regex < length rs
  pub within : s.place ≤ length codes

-- from the lowest one up: one that was entered matches only if one above it does
unfoldable pub AreWaiting : List Regex → List ℕ → List State → Type 0
AreWaiting rs codes [] = Unit {0}
AreWaiting rs codes (s ∷ above) =
    IsState rs codes s
    × (s.entered ≡ true → state_matches rs codes s ≡ true → some_matches rs codes above ≡ true)
    × AreWaiting rs codes above

-- and some matches exactly where the word is to be found to match
pub record AreStates (rs : List Regex) (codes : List ℕ) (found : Bool) (states : List State) : Type 0 where
  pub waiting : AreWaiting rs codes states
  pub whole : some_matches rs codes states ≡ found

abbrev pub fresh : ℕ → ℕ → State
fresh place n = record { regex = n; place = place; entered = false }

-- the states of these, the last one first
unfoldable pub states_of : ℕ → List ℕ → List State
states_of place [] = []
states_of place (n ∷ ns) = states_of place ns ++ fresh place n ∷ []

-- the numbers are of regexes whose languages together are that of one
pub record AreMembers (rs : List Regex) (target : ℕ) (members : List ℕ) : Type 0 where
  pub known : AllNumbers rs members
  pub union : (u : List ℕ) → in_some rs members u ≡ language (regex_at rs target) u

-- the states of such numbers were put behind the others
pub record ArePut (rs : List Regex) (target place : ℕ) (old new : List State) : Type 0 where
  pub members : List ℕ
  pub right : AreMembers rs target members
  pub is : new ≡ old ++ states_of place members

-- the state was put behind the others as an entered one, and states above it that match where it does
pub record IsEntered (rs : List Regex) (codes : List ℕ) (s : State) (old new : List State) : Type 0 where
  pub members : List ℕ
  pub known : AllNumbers rs members
  pub union : in_some rs members (drop (s.place + 1) codes) ≡ state_matches rs codes s
  pub is : new ≡ (old ++ record { regex = s.regex; place = s.place; entered = true } ∷ []) ++ states_of (s.place + 1) members

-- whatever was to be found from the states with the one on top is to be found from the new ones
abbrev pub KeepsStates : List Regex → List Regex → List ℕ → State → List State → List State → Type 0
KeepsStates rs rs' codes s old new =
    (found : Bool) → AreStates rs codes found (old ++ s ∷ []) → AreStates rs' codes found new

-- how far a walk has come
pub record IsWalking (first now : List Regex) (learnt : Learnt) (failed : Failed) (codes : List ℕ) (found : Bool)
    (stack : List State) : Type 0 where
  pub extends : Extends first now
  pub right : LearntIsRight now learnt
  pub fails : AreFailed now failed
  pub same : failed.0 ≡ codes
  pub states : AreStates now codes found stack
