-- What hexadecimal digits spell is a character.
use Rattle.std.proofs.Common.{◌≡◌, ℕ, Bool, true, false, ◌&&◌, if◌then◌else◌, nat_le, List, length, Option, Some, None, refl}
use Rattle.std.specs.Prelude.{option_and_then}
use Rattle.sb_word.specs.Words.{is_character}
use Rattle.sb_word.specs.Literals.{hex_number_from}
use Rattle.sb_word.specs.LiteralWords.{character_of}

-- what is spelled, if anything is, is a character
abbrev pub if_character : Option ℕ → Bool
if_character None = true
if_character (Some c) = is_character c

pub character_spelled : (digits : List ℕ) → if_character (character_of digits) ≡ true
character_spelled digits =
    step (nat_le 1 (length digits) && nat_le (length digits) 5) (hex_number_from 0 digits)
  where
    by : (c : ℕ) (b : Bool) → nat_le c 0x2ffff ≡ b → if_character (if b then Some c else None) ≡ true
    by c true is = is
    by c false is = refl

    step : (b : Bool) (o : Option ℕ)
        → if_character (if b then option_and_then (λ c. if nat_le c 0x2ffff then Some c else None) o else None) ≡ true
    step true None = refl
    step true (Some c) = by c (nat_le c 0x2ffff) refl
    step false o = refl
