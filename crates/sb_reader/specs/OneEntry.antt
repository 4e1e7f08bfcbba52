-- Private: the tokens of one entry, as a scan finds them.
use Rattle.std.specs.Prelude.{◌≡◌, ℕ, Bool, true, false, List, [], ◌∷◌}
use Rattle.sb_reader.specs.Tokens.{Token, Open}
use Rattle.sb_reader.specs.Entries.{Spells, closes_at_end}

-- the tokens of one entry, whichever: all up to the parenthesis that closes the first, or one other token
abbrev pub is_one_entry : List Token → Bool
is_one_entry [] = false
is_one_entry (Open ∷ tokens) = closes_at_end 1 tokens
is_one_entry (token ∷ []) = true
is_one_entry (token ∷ next ∷ tokens) = false

-- The tokens of one entry, and nothing else: what a scan for the end of an entry has found.
pub record IsOneEntry (front : List ℕ) : Type 0 where
  pub tokens : List Token
  pub one : is_one_entry tokens ≡ true
  pub spelled : Spells true tokens front []
