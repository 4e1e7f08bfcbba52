-- Private: symbols by their indices.
use Rattle.std.specs.Prelude.{ℕ, List, [], ◌∷◌, Option, Some, None, Result, Err}
use Rattle.sb_reader.specs.Forms.{Form, Symbol, QuotedSymbol, Keyword, Numeral, OtherNumber, Words, Group}
use Rattle.sb_meaning.specs.Terms as symbol
use Rattle.sb_script.specs.Texts.{number_of}
use Rattle.sb_script.specs.Faults.{Fault, bad_index}
use Rattle.sb_script.specs.Heads.{Head, if_small_indices}

-- the digits of a form that is a numeral
abbrev pub numeral_in : Form → Option (List ℕ)
numeral_in (Numeral digits) = Some digits
numeral_in (Symbol name) = None
numeral_in (QuotedSymbol name) = None
numeral_in (Keyword name) = None
numeral_in (OtherNumber bytes) = None
numeral_in (Words bytes) = None
numeral_in (Group list) = None

-- (_ re.^ n), by its only index
abbrev pub by_power : Option (List ℕ) → Result Head Fault
by_power None = Err bad_index
by_power (Some ds) = if_small_indices (number_of ds ∷ []) (symbol.re_power (number_of ds))

-- (_ re.loop n m), by its two indices
abbrev pub by_loop : Option (List ℕ) → Option (List ℕ) → Result Head Fault
by_loop None o = Err bad_index
by_loop (Some ds) None = Err bad_index
by_loop (Some ds) (Some es) =
    if_small_indices (number_of ds ∷ number_of es ∷ []) (symbol.re_loop (number_of ds) (number_of es))
