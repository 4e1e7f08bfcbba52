-- What reading a term says of it.
use Rattle.std.specs.Prelude.{◌≡◌, ℕ, ◌<◌, List, length, Result, Ok, Err}
use Rattle.sb_sorts.specs.declared.read.ReadFault.{ReadFault}
use Rattle.sb_sorts.specs.declared.read.ReadFault.TheVariants as fault
use Rattle.sb_meaning.specs.Terms.{Term}
use Rattle.sb_script.specs.Faults.{Fault, unknown_symbol, wrong_sort, wrong_count, bad_index, unsupported, numeral_too_large, bad_literal, malformed, already_bound}
use Rattle.sb_term.specs.Numbered.{term_at}

-- Reading gives this fault. Want of memory says nothing.
abbrev pub Faults : {A : Type 0} → Result A Fault → ReadFault → Type 0
Faults reading (fault.UnknownSymbol name) = reading ≡ Err (unknown_symbol name.items)
Faults reading fault.WrongSort = reading ≡ Err wrong_sort
Faults reading fault.WrongCount = reading ≡ Err wrong_count
Faults reading fault.BadIndex = reading ≡ Err bad_index
Faults reading fault.NumeralTooLarge = reading ≡ Err numeral_too_large
Faults reading fault.Unsupported = reading ≡ Err unsupported
Faults reading fault.BadLiteral = reading ≡ Err bad_literal
Faults reading fault.Malformed = reading ≡ Err malformed
Faults reading (fault.AlreadyBound name) = reading ≡ Err (already_bound name.items)
Faults reading fault.NoMemory = Unit {0}

-- The answer is what reading by the definitions gives: the number of the term among these, or the first fault.
abbrev pub ReadsAs : List Term → Result Term Fault → Result ℕ ReadFault → Type 0
ReadsAs ts reading (Ok id) = (reading ≡ Ok (term_at ts id)) × (id < length ts)
ReadsAs ts reading (Err fault) = Faults reading fault
