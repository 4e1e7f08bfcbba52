-- Private: what is said of a form that is no term.
use Rattle.std.specs.Prelude.{ℕ, Bool, true, false, List, Option, Some, None}
use Rattle.sb_script.specs.Errors.{text_of}
use Rattle.sb_script.specs.Faults as meaning
use Rattle.sb_script.specs.Faults.{Fault}
use Rattle.sb_script.specs.Steps.{error_line, fault_error, unsupported_line}
use Rattle.sb_sorts.specs.declared.read.ReadFault.{ReadFault}
use Rattle.sb_sorts.specs.declared.read.ReadFault.TheVariants as code

-- the fault, none where memory ran out
abbrev pub fault_in : ReadFault → Option Fault
fault_in (code.UnknownSymbol name) = Some (meaning.unknown_symbol name.items)
fault_in code.WrongSort = Some meaning.wrong_sort
fault_in code.WrongCount = Some meaning.wrong_count
fault_in code.BadIndex = Some meaning.bad_index
fault_in code.NumeralTooLarge = Some meaning.numeral_too_large
fault_in code.Unsupported = Some meaning.unsupported
fault_in code.BadLiteral = Some meaning.bad_literal
fault_in code.Malformed = Some meaning.malformed
fault_in (code.AlreadyBound name) = Some (meaning.already_bound name.items)
fault_in code.NoMemory = None

-- the line that answers it
abbrev pub fault_text : Fault → List ℕ
fault_text fault = elim (fault_error fault) [ Some e ↦ error_line (text_of e) | None ↦ unsupported_line ]

-- the fault of a body is told before a name that can't be declared, or nothing is known of the body
abbrev pub is_told_first : ReadFault → Bool
is_told_first (code.UnknownSymbol name) = false
is_told_first code.WrongSort = false
is_told_first code.WrongCount = false
is_told_first code.BadIndex = false
is_told_first code.NumeralTooLarge = true
is_told_first code.Unsupported = false
is_told_first code.BadLiteral = true
is_told_first code.Malformed = true
is_told_first (code.AlreadyBound name) = false
is_told_first code.NoMemory = true
