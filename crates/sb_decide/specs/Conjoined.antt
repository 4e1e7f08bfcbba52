-- A constant's memberships by their places, and of how many first ones of them its kept word is known to be the least.
use Rattle.std.specs.Prelude.{◌≡◌, ◌≢◌, ℕ, ◌-◌, ◌==◌, nat_le, if◌then◌else◌, Bool, true, false, List, [], ◌∷◌, ◌++◌, length, take, Option, Some, None, slice_index_or}
use Rattle.std.specs.List.{list_any}
use Rattle.sb_term.specs.declared.term.Serial.{Serial}

pub record Conjoined : Type 0 where
  -- of its memberships, ascending
  pub places : List ℕ
  -- the kept word is the least one of so many first memberships; none where nothing is known of it
  pub known : Option ℕ

-- no memberships: the empty word is the least one
abbrev pub blank : Conjoined
blank = record { places = []; known = Some 0 }

abbrev pub conjoined_at : List Conjoined → ℕ → Conjoined
conjoined_at cs n = slice_index_or cs n blank

abbrev pub without_last : List ℕ → List ℕ
without_last places = take (length places - 1) places

-- so many first memberships, where there are so many
abbrev pub known_within : ℕ → Option ℕ → Option ℕ
known_within count None = None
known_within count (Some k) = if nat_le k count then Some k else None

-- a membership more, and one less
abbrev pub with_place : ℕ → Conjoined → Conjoined
with_place place c = record c { places = c.places ++ place ∷ [] }

abbrev pub without_place : Conjoined → Conjoined
without_place c =
    record { places = without_last c.places; known = known_within (length (without_last c.places)) c.known }

-- nothing is known of the kept word, and all is
abbrev pub forgotten : Conjoined → Conjoined
forgotten c = record c { known = None }

abbrev pub all_known : Conjoined → Conjoined
all_known c = record c { known = Some (length c.places) }

-- so many first memberships are all of them
abbrev pub is_known_of : ℕ → Option ℕ → Bool
is_known_of count None = false
is_known_of count (Some k) = k == count

-- the kept word is the least one of all memberships
abbrev pub is_settled : Conjoined → Bool
is_settled c = is_known_of (length c.places) c.known

-- the constant is in the list
abbrev pub is_listed : List Serial → ℕ → Bool
is_listed changed n = list_any (λ serial. serial.0 == n) changed

-- constants out of the list have their words
abbrev pub OthersSettled : List Serial → List Conjoined → Type 0
OthersSettled changed cs = (n : ℕ) → is_listed changed n ≡ false → is_settled (conjoined_at cs n) ≡ true

-- and constants out of two lists
abbrev pub RestSettled : List Serial → List Serial → List Conjoined → Type 0
RestSettled left changed cs = (n : ℕ) → is_listed left n ≡ false → is_listed changed n ≡ false
    → is_settled (conjoined_at cs n) ≡ true

-- so many constants, of which those that are new have no memberships
pub record HasRoom (count : ℕ) (old new : List Conjoined) : Type 0 where
  pub long : length new ≡ count
  pub same : (n : ℕ) → conjoined_at new n ≡ conjoined_at old n

-- the constant has this now, and all others have what they had
pub record IsChangedAt (old new : List Conjoined) (serial : ℕ) (c : Conjoined) : Type 0 where
  pub same_length : length new ≡ length old
  pub there : conjoined_at new serial ≡ c
  pub others : (n : ℕ) → n ≢ serial → conjoined_at new n ≡ conjoined_at old n
