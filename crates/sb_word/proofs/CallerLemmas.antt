-- Lemmas on this crate's definitions for the crates above: the value of a hexadecimal digit, one more digit of a
-- number, and the digits of one; that bytes all of which a literal holds are a literal of a word.
use Rattle.std.proofs.Common.{◌≡◌, ℕ, List, None}
use Rattle.sb_word.specs.Words.{IsWord}
use Rattle.sb_word.specs.LiteralWords.{word_of_literal, first_bad}
use Rattle.sb_word.proofs.LiteralWordLemmas.{text_is_literal, literal_is_word}
pub use Rattle.sb_word.proofs.DigitLemmas.{hex_value-decimal, hex_value-letter, hex_value-glyph, hex_number-digit, hex_number-glyph, AreHex, are_hex}

-- what is read of such bytes is a word
pub text_is_word : (bytes : List ℕ) → first_bad bytes ≡ None → IsWord (word_of_literal bytes)
text_is_word bytes none = literal_is_word (word_of_literal bytes) bytes (text_is_literal bytes none)
