-- What becomes of a command: answers, and the errors among them (SMT-LIB 2.6, section 4.2).
use Rattle.std.specs.Prelude.{ℕ, if◌then◌else◌, List, [], ◌∷◌, ◌++◌, codes, Option, Some, None}
use Rattle.sb_reader.specs.declared.feed.Refusal.{Refusal}
use Rattle.sb_reader.specs.declared.feed.Refusal.TheVariants.{StrayClose, BadToken, TooDeep, BareToken}
use Rattle.sb_script.specs.Faults.{Fault, unknown_symbol, wrong_sort, wrong_count, bad_index, unsupported, numeral_too_large, bad_literal, malformed, already_bound}
use Rattle.sb_script.specs.Errors as error
use Rattle.sb_script.specs.Errors.{Error, text_of}
use Rattle.sb_script.specs.State.{State, a_mark, Assumption, with_assertion}

-- a line of its own
abbrev pub line : List ℕ → List ℕ
line bytes = bytes ++ 10 ∷ []

-- text between quotes
abbrev pub quoted : List ℕ → List ℕ
quoted bytes = 34 ∷ (bytes ++ 34 ∷ [])

abbrev pub error_line : List ℕ → List ℕ
error_line bytes = line (codes "(error " ++ (quoted bytes ++ codes ")"))

abbrev pub unsupported_line : List ℕ
unsupported_line = line (codes "unsupported")

-- success is answered by a line, or by nothing where :print-success is false
abbrev pub success : State → List ℕ
success s = if s.options.print_success then line (codes "success") else []

-- what is left of the assertions
pub data Leaving : Type 0 where
  -- those of levels above this one
  above : ℕ → Leaving
  all : Leaving

-- what becomes of a command
pub data Step : Type 0 where
  -- an answer and a new state
  answers : List ℕ → State → Step
  -- the same, where assertions are left
  leaves : Leaving → List ℕ → State → Step
  -- a check under these assumptions
  checks : List Assumption → Step
  -- the end of the run
  exits : List ℕ → Step

abbrev pub fails : List ℕ → State → Step
fails bytes s = answers (error_line bytes) s

abbrev pub fails_by : Error → State → Step
fails_by e s = fails (text_of e) s

-- the new state has the options by which it is answered
abbrev pub succeeds : State → Step
succeeds s = answers (success s) s

abbrev pub is_unsupported : State → Step
is_unsupported s = answers unsupported_line s

abbrev pub refusal_error : Refusal → Error
refusal_error StrayClose = error.unexpected_close
refusal_error BadToken = error.bad_token
refusal_error TooDeep = error.too_deep
refusal_error BareToken = error.malformed_command

abbrev pub refusal_text : Refusal → List ℕ
refusal_text refusal = text_of (refusal_error refusal)

-- the error of a fault, none of a term that is left out
abbrev pub fault_error : Fault → Option Error
fault_error (unknown_symbol name) = Some (error.unknown_symbol name)
fault_error wrong_sort = Some error.wrong_sort
fault_error wrong_count = Some error.wrong_count
fault_error bad_index = Some error.bad_index
fault_error unsupported = None
fault_error numeral_too_large = Some error.numeral_too_large
fault_error bad_literal = Some error.bad_token
fault_error malformed = Some error.malformed_command
fault_error (already_bound name) = Some (error.already_declared name)

-- a term that is left out leaves a mark; another fault leaves the state
abbrev pub refused_term : Fault → State → Step
refused_term fault s =
    elim (fault_error fault) [ Some e ↦ fails_by e s | None ↦ is_unsupported (with_assertion a_mark s) ]

-- texts between parentheses, with one space between
abbrev pub spaced : List (List ℕ) → List ℕ
spaced [] = []
spaced (t ∷ []) = t
spaced (t ∷ u ∷ ts) = t ++ (codes " " ++ spaced (u ∷ ts))

abbrev pub list_text : List (List ℕ) → List ℕ
list_text ts = codes "(" ++ (spaced ts ++ codes ")")
