-- Lists of pieces: each has its first number and goes on to the next piece, and all its numbers have its value.
use Rattle.std.specs.Prelude.{◌≡◌, ℕ, suc, Bool, true, not, ◌&&◌, ◌==◌, nat_le, cond, List, [], ◌∷◌, map}

-- above the last character
abbrev pub end_of_characters : ℕ
end_of_characters = 0x30000

-- the value of the last piece that begins at or below the number, or the first argument
unfoldable pub value_from : {A : Type 0} → A → List (ℕ × A) → ℕ → A
value_from d [] c = d
value_from d (p ∷ ps) c = value_from (cond (nat_le p.0 c) p.1 d) ps c

-- the pieces begin in ascending order, from a number on and below an end
unfoldable pub rises : {A : Type 0} → ℕ → List (ℕ × A) → ℕ → Bool
rises n [] end = nat_le n end
rises n (p ∷ ps) end = nat_le n p.0 && rises (suc p.0) ps end

-- the pieces are of all numbers below the end: the first begins at 0
unfoldable pub covers : {A : Type 0} → List (ℕ × A) → ℕ → Bool
covers [] end = end == 0
covers (p ∷ ps) end = (p.0 == 0) && rises 1 ps end

-- neighbours have different values
unfoldable pub differs_from : ℕ → List (ℕ × ℕ) → Bool
differs_from t [] = true
differs_from t (p ∷ ps) = not (p.1 == t) && differs_from p.1 ps

unfoldable pub are_merged : List (ℕ × ℕ) → Bool
are_merged [] = true
are_merged (p ∷ ps) = differs_from p.1 ps

-- the characters as pieces, as few as can be
pub record IsIntervalMap (pieces : List (ℕ × ℕ)) : Type 0 where
  pub whole : covers pieces end_of_characters ≡ true
  pub merged : are_merged pieces ≡ true

-- the target of a character, which is 0 where there is no piece
abbrev pub value_at : List (ℕ × ℕ) → ℕ → ℕ
value_at pieces c = value_from 0 pieces c

-- the numbers of the regexes that are the targets
abbrev pub targets_of : List (ℕ × ℕ) → List ℕ
targets_of pieces = map (λ p. p.1) pieces
