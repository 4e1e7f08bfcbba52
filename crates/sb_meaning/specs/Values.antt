-- Values, and valuations of constants.
use Rattle.std.specs.Prelude.{ℕ, ℤ, pos, Bool, true, false, ◌==◌, if◌then◌else◌, List, [], ◌∷◌}
use Rattle.sb_word.specs.Words.{are_characters}
use Rattle.sb_meaning.specs.Terms.{Sort, boolean, integer, text, reglan}

pub data Value : Type 0 where
  Text : List ℕ → Value
  Int : ℤ → Value
  Truth : Bool → Value

-- values by serial; the first of a serial counts
abbrev pub Valuation : Type 0
Valuation = List (ℕ × Value)

-- the value of a constant that occurs nowhere
abbrev pub default_of : Sort → Value
default_of boolean = Truth false
default_of integer = Int (pos 0)
default_of text = Text []
default_of reglan = Text []

-- the value of a constant, by its serial
abbrev pub value_in : Valuation → ℕ → Sort → Value
value_in [] serial sort = default_of sort
value_in (p ∷ ps) serial sort = if p.0 == serial then p.1 else value_in ps serial sort

-- the value is of the sort; a word is one of characters
abbrev pub is_of : Sort → Value → Bool
is_of text (Text w) = are_characters w
is_of integer (Int n) = true
is_of boolean (Truth b) = true
is_of _ _ = false
