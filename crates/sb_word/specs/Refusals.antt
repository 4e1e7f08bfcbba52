-- Why bytes are no literal.
use Rattle.std.specs.Prelude.{◌≡◌, ℕ, List, Some, Result, Ok, Err}
use Rattle.sb_word.specs.Literals.{Literal}
use Rattle.sb_word.specs.LiteralWords.{first_bad}
use Rattle.sb_word.specs.declared.read.LiteralError.{LiteralError}
use Rattle.sb_word.specs.declared.read.LiteralError.TheVariants.{BadByte, NoMemory}

-- a place that is named is that of the first bad byte, and the bytes are a literal of no word
abbrev pub LiteralFault : {T : Type 0} → List ℕ → Result T LiteralError → Type 0
LiteralFault bytes (Ok _) = Unit {0}
LiteralFault bytes (Err (BadByte place)) = (first_bad bytes ≡ Some place) × ((w : List ℕ) → Literal bytes w → ⊥)
LiteralFault bytes (Err NoMemory) = Unit {0}
