-- Private: what the code finds in front of the bytes of a literal.
use Rattle.std.specs.Prelude.{◌≡◌, ℕ, ◌≤◌, ◌+◌, true, List, ◌∷◌, drop, length, Some, option_map, Result, Ok, Err}
use Rattle.sb_word.specs.declared.escape.Spelled.{Spelled}
use Rattle.sb_word.specs.declared.read.LiteralError.{LiteralError}
use Rattle.sb_word.specs.declared.read.LiteralError.TheVariants.{BadByte, NoMemory}
use Rattle.sb_word.specs.LiteralWords as meaning
use Rattle.sb_word.specs.LiteralWords.{before_brace, word_of_literal, first_bad}
use Rattle.sb_word.specs.Words.{is_character}

abbrev pub spelled_in : Spelled → meaning.Spelled
spelled_in s = (s.code, s.length)

-- where there is a closing brace six bytes or more stand before it
abbrev pub IsFarBrace : List ℕ → Type 0
IsFarBrace bytes = (front : List ℕ) → before_brace bytes ≡ Some front → 6 ≤ length front

-- A character is spelled in front of bytes: it is the first one of the word, and no byte of it is bad.
pub record IsFront (bytes : List ℕ) (s : meaning.Spelled) : Type 0 where
  pub word : word_of_literal bytes ≡ s.0 ∷ word_of_literal (drop s.1 bytes)
  pub bad : first_bad bytes ≡ option_map (λ place. place + s.1) (first_bad (drop s.1 bytes))
  pub character : is_character s.0 ≡ true
  pub some : 1 ≤ s.1
  pub within : s.1 ≤ length bytes

-- the first byte is bad
abbrev pub IsNoFront : List ℕ → Type 0
IsNoFront bytes = first_bad bytes ≡ Some 0

-- a place that is named is that of the first bad byte
abbrev pub WordFault : {T : Type 0} → List ℕ → Result T LiteralError → Type 0
WordFault bytes (Ok _) = Unit {0}
WordFault bytes (Err (BadByte place)) = first_bad bytes ≡ Some place
WordFault bytes (Err NoMemory) = Unit {0}
