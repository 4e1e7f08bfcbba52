-- String literals: the bytes between the quotes, and the word that they stand for (SMT-LIB theory of
-- Unicode Strings, escape sequences; SMT-LIB 2.6, section 3.1, string literals with doubled quotes).
use Rattle.std.specs.Prelude.{◌≡◌, ℕ, ◌+◌, ◌-◌, ◌*◌, ◌≤◌, Bool, true, false, not, ◌&&◌, ◌==◌, nat_le, if◌then◌else◌, List, [], ◌∷◌, ◌++◌, ◌⊎◌, length, Option, Some, None}
use Rattle.std.specs.List.{flat_map}
use Rattle.std.specs.Fmt.{digits}

-- the value of a hexadecimal digit of either case
unfoldable pub hex_value : ℕ → Option ℕ
hex_value b =
    if nat_le 48 b && nat_le b 57 then Some (b - 48)
    else if nat_le 97 b && nat_le b 102 then Some (b - 87)
    else if nat_le 65 b && nat_le b 70 then Some (b - 55)
    else None

-- the number that hexadecimal digits spell behind what came before them; none where one is no digit
unfoldable pub hex_number_from : ℕ → List ℕ → Option ℕ
hex_number_from n [] = Some n
hex_number_from n (b ∷ bs) = elim (hex_value b) [ None ↦ None | Some d ↦ hex_number_from (16 * n + d) bs ]

-- a backslash, u and four hexadecimal digits
pub record IsFourDigitEscape (bytes : List ℕ) (c : ℕ) : Type 0 where
  pub digits : List ℕ
  pub spelled : bytes ≡ 92 ∷ 117 ∷ digits
  pub four : length digits ≡ 4
  pub number : hex_number_from 0 digits ≡ Some c

-- a backslash, u, and in braces one to five hexadecimal digits of a character
pub record IsBracedEscape (bytes : List ℕ) (c : ℕ) : Type 0 where
  pub digits : List ℕ
  pub spelled : bytes ≡ 92 ∷ 117 ∷ 123 ∷ (digits ++ 125 ∷ [])
  pub some : 1 ≤ length digits
  pub few : length digits ≤ 5
  pub number : hex_number_from 0 digits ≡ Some c
  pub character : c ≤ 0x2ffff

-- the bytes are an escape of the character
abbrev pub IsEscape : List ℕ → ℕ → Type 0
IsEscape bytes c = IsFourDigitEscape bytes c ⊎ IsBracedEscape bytes c

-- the bytes begin with an escape
pub record BeginsWithEscape (bytes : List ℕ) : Type 0 where
  pub escape : List ℕ
  pub rest : List ℕ
  pub c : ℕ
  pub split : bytes ≡ escape ++ rest
  pub is : IsEscape escape c

-- a byte of a literal: from 0x20 to 0x7e
abbrev pub is_printable : ℕ → Bool
is_printable b = nat_le 0x20 b && nat_le b 0x7e

-- a byte that stands for itself, since it is no quote and no escape begins with it
pub record StandsForItself (front rest : List ℕ) (c : ℕ) : Type 0 where
  pub byte : front ≡ c ∷ []
  pub printable : is_printable c ≡ true
  pub no_quote : (c == 34) ≡ false
  pub no_escape : BeginsWithEscape (c ∷ rest) → ⊥

-- with rest behind it, front stands for the character: a doubled quote, an escape, or the byte itself
abbrev pub Spells : List ℕ → List ℕ → ℕ → Type 0
Spells front rest c = ((front ≡ 34 ∷ 34 ∷ []) × (c ≡ 34)) ⊎ (IsEscape front c ⊎ StandsForItself front rest c)

-- the bytes between the quotes are a literal of the word
abbrev pub Literal : List ℕ → List ℕ → Type 0
Literal bytes [] = bytes ≡ []
Literal bytes (c ∷ w) = (front : List ℕ) × (rest : List ℕ) × (bytes ≡ front ++ rest) × Spells front rest c
    × Literal rest w

-- the text of a character in a literal: a quote doubled, another printable character but the backslash as
-- itself, every other one as an escape in braces
abbrev pub character_text : ℕ → List ℕ
character_text c =
    if c == 34 then 34 ∷ 34 ∷ []
    else if is_printable c && not (c == 92) then c ∷ []
    else 92 ∷ 117 ∷ 123 ∷ (digits 16 false c ++ 125 ∷ [])

-- the text of a word between the quotes of its literal
abbrev pub literal_text : List ℕ → List ℕ
literal_text word = flat_map character_text word

-- the bytes of a literal stand for one word
abbrev pub StandsForOneWord : Type 0
StandsForOneWord = (bytes v w : List ℕ) → Literal bytes v → Literal bytes w → v ≡ w
