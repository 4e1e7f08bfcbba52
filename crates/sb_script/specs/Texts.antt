-- Texts and numerals as terms (SMT-LIB 2.6, section 3.1).
use Rattle.std.specs.Prelude.{ℕ, nat_le, if◌then◌else◌, List, is_some, Result, Ok, Err}
pub use Rattle.sb_word.specs.Numerals.{number_from, number_of}
use Rattle.sb_word.specs.LiteralWords.{word_of_literal, first_bad}
use Rattle.sb_meaning.specs.Terms.{Term, word, numeral}
use Rattle.sb_script.specs.Faults.{Fault, bad_literal, numeral_too_large}

-- Texts.

-- a text as a term, by the bytes between its quotes
abbrev pub read_text : List ℕ → Result Term Fault
read_text bytes = if is_some (first_bad bytes) then Err bad_literal else Ok (word (word_of_literal bytes))

-- Numerals.

-- a numeral as a term is at most 2^31 - 1
abbrev pub read_numeral : List ℕ → Result Term Fault
read_numeral digits =
    let n = number_of digits in if nat_le n 0x7fffffff then Ok (numeral n) else Err numeral_too_large
