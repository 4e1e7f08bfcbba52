-- The word of a literal, as a function that computes, and the first byte that no literal holds (SMT-LIB theory of
-- Unicode Strings, escape sequences; SMT-LIB 2.6, section 3.1).
use Rattle.std.specs.Prelude.{◌≡◌, ℕ, zero, suc, ◌+◌, ◌-◌, ◌&&◌, nat_eq, nat_le, if◌then◌else◌, List, [], ◌∷◌, length, drop, Option, Some, None, option_map, option_and_then}
use Rattle.sb_word.specs.Literals.{is_printable, hex_number_from, Literal}

-- what stands before the closing brace
abbrev pub before_brace : List ℕ → Option (List ℕ)
before_brace [] = None
before_brace (b ∷ bs) = if nat_eq b 125 then Some [] else option_map (λ front. b ∷ front) (before_brace bs)

-- a character, and how many bytes spell it
abbrev pub Spelled : Type 0
Spelled = ℕ × ℕ

-- one to five hexadecimal digits of a character
abbrev pub character_of : List ℕ → Option ℕ
character_of digits =
    if nat_le 1 (length digits) && nat_le (length digits) 5
    then option_and_then (λ c. if nat_le c 0x2ffff then Some c else None) (hex_number_from 0 digits) else None

-- digits in braces, behind a backslash and u
abbrev pub in_braces : List ℕ → Option Spelled
in_braces digits = option_map (λ c. (c, length digits + 4)) (character_of digits)

-- four digits, behind a backslash and u
abbrev pub of_four : List ℕ → Option Spelled
of_four (a ∷ b ∷ c ∷ d ∷ rest) = option_map (λ n. (n, 6)) (hex_number_from 0 (a ∷ b ∷ c ∷ d ∷ []))
of_four _ = None

-- what stands behind a backslash and u: digits in braces, or four of them
abbrev pub escape_behind : List ℕ → Option Spelled
escape_behind [] = None
escape_behind (b ∷ bs) = if nat_eq b 123 then option_and_then in_braces (before_brace bs) else of_four (b ∷ bs)

-- the escape in front of bytes
abbrev pub escape_in_front : List ℕ → Option Spelled
escape_in_front (b ∷ c ∷ bs) = if nat_eq b 92 && nat_eq c 117 then escape_behind bs else None
escape_in_front _ = None

-- what is spelled in front: an escape, a pair of quotes, or a byte that stands for itself
abbrev pub in_front : List ℕ → Spelled
in_front [] = (0, 1)
in_front (b ∷ bs) = elim (escape_in_front (b ∷ bs)) [
  | Some spelled ↦ spelled
  | None ↦
      (b, if nat_eq b 34 then 2 else 1)
]

-- the word of a literal, behind so many bytes of it
abbrev pub word_behind : ℕ → List ℕ → List ℕ
word_behind n [] = []
word_behind (suc n) (b ∷ bs) = word_behind n bs
word_behind zero (b ∷ bs) = let front = in_front (b ∷ bs) in front.0 ∷ word_behind (front.1 - 1) bs

-- the word of a literal
abbrev pub word_of_literal : List ℕ → List ℕ
word_of_literal bytes = word_behind 0 bytes

-- The place of the first byte that no literal holds: one that is not printable, or a quote that is none of a pair.
abbrev mutual
  pub first_bad : List ℕ → Option ℕ
  first_bad [] = None
  first_bad (b ∷ bs) =
      if nat_eq b 34 then first_bad_behind_quote bs
      else if is_printable b then option_map (λ place. place + 1) (first_bad bs)
      else Some 0

  -- counted from the quote that stands in front
  pub first_bad_behind_quote : List ℕ → Option ℕ
  first_bad_behind_quote [] = Some 0
  first_bad_behind_quote (b ∷ bs) =
      if nat_eq b 34 then option_map (λ place. place + 2) (first_bad bs) else Some 0

-- Bytes all of which a literal holds are a literal of their word.
abbrev pub TextIsLiteral : Type 0
TextIsLiteral = (bytes : List ℕ) → first_bad bytes ≡ None → Literal bytes (word_of_literal bytes)

-- A literal has no byte that no literal holds, and stands for its word.
abbrev pub LiteralHasItsWord : Type 0
LiteralHasItsWord = (bytes w : List ℕ) → Literal bytes w → (first_bad bytes ≡ None) × (word_of_literal bytes ≡ w)

-- The word behind so many bytes is that of the bytes that are left.
abbrev pub RestHasItsWord : Type 0
RestHasItsWord = (n : ℕ) (bytes : List ℕ) → word_behind n bytes ≡ word_of_literal (drop n bytes)
