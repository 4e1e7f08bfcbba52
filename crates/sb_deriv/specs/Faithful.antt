-- Which interval maps are derivatives of regexes by all characters at once.
use Rattle.std.specs.Prelude.{◌≡◌, ℕ, ◌<◌, true, List, Some, None, Option, get_or, length}
use Rattle.sb_word.specs.Words.{is_character}
use Rattle.sb_lang.specs.Regex.{Regex}
use Rattle.sb_lang.specs.Derivative.{nd}
use Rattle.sb_regex.specs.Numbered.{regex_at, AllNumbers, Extends}
use Rattle.sb_deriv.specs.Pieces.{IsIntervalMap, value_at, targets_of}

-- the map has numbers of the list, and at each character that of the value there
pub record IsMapOf (rs : List Regex) (value : ℕ → Regex) (pieces : List (ℕ × ℕ)) : Type 0 where
  pub ordered : IsIntervalMap pieces
  pub targets : AllNumbers rs (targets_of pieces)
  pub values : (c : ℕ) → is_character c ≡ true → regex_at rs (value_at pieces c) ≡ value c

abbrev pub IsDerivative : List Regex → Regex → List (ℕ × ℕ) → Type 0
IsDerivative rs r pieces = IsMapOf rs (nd r) pieces

-- by number of regex, what is known of its derivative
abbrev pub Memo : Type 0
Memo = List (Option (List (ℕ × ℕ)))

abbrev pub entry_of : Memo → ℕ → Option (List (ℕ × ℕ))
entry_of memo n = get_or memo n None

-- the entry is of a number of the list, and is the derivative of that number's regex
pub record IsKnown (rs : List Regex) (n : ℕ) (pieces : List (ℕ × ℕ)) : Type 0 where
  pub number : n < length rs
  pub derivative : IsDerivative rs (regex_at rs n) pieces

abbrev pub IsFaithful : List Regex → Memo → Type 0
IsFaithful rs memo = (n : ℕ) (pieces : List (ℕ × ℕ)) → entry_of memo n ≡ Some pieces → IsKnown rs n pieces

-- the entries of the old memo are in the new one
abbrev pub KeepsEntries : Memo → Memo → Type 0
KeepsEntries old new = (n : ℕ) (pieces : List (ℕ × ℕ)) → entry_of old n ≡ Some pieces → entry_of new n ≡ Some pieces

-- more regexes change nothing
abbrev pub FaithfulStays : Type 0
FaithfulStays = (old new : List Regex) (memo : Memo) → Extends old new → IsFaithful old memo → IsFaithful new memo
