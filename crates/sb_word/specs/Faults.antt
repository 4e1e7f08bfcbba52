-- Why a list of numbers gives no word.
use Rattle.std.specs.Prelude.{ℕ, List, Result, Ok, Err}
use Rattle.sb_word.specs.Words.{IsFirstOutside}
use Rattle.sb_word.specs.declared.word.CodesError.{CodesError}
use Rattle.sb_word.specs.declared.word.CodesError.TheVariants.{NotACharacter, NoMemory}

-- a place that is named is that of the first number that is no character
abbrev pub OutsideFault : {T : Type 0} → List ℕ → Result T CodesError → Type 0
OutsideFault codes (Ok _) = Unit {0}
OutsideFault codes (Err (NotACharacter place)) = IsFirstOutside codes place
OutsideFault codes (Err NoMemory) = Unit {0}
