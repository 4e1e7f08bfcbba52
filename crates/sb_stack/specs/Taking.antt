-- Private: what the parts of taking a command do: for private contracts alone.
use Rattle.std.specs.Prelude.{ℕ, Bool, if◌then◌else◌, List, Some, None, Result, Ok, Err}
use Rattle.std.specs.declared.vec.Vec.{Vec}
use Rattle.std.specs.declared.alloc.Global.{Global}
use Rattle.sb_script.specs.Names.{Name}
use Rattle.sb_meaning.specs.Terms.{Sort, Term, boolean}
use Rattle.sb_script.specs.Symbols.{is_taken}
use Rattle.sb_script.specs.Faults.{Fault}
use Rattle.sb_meaning.specs.Sorts.{sort_of, is_same_sort}
use Rattle.sb_script.specs.State.{State, asserted, names_of, declared, with_assertion}
use Rattle.sb_script.specs.Errors as error
use Rattle.sb_script.specs.Steps.{Step, fails_by, succeeds, refused_term}
use Rattle.sb_script.specs.Replies.{Item, some_malformed, first_unknown, values_of}
use Rattle.sb_stack.specs.declared.stack.Step as taken
use Rattle.sb_stack.specs.declared.stack.Step.TheVariants as code
use Rattle.sb_stack.specs.Steps.{IsStep}

-- the step that the definitions have is an answer, these bytes
abbrev pub IsAnswered : Step → Vec ℕ Global → State → State → Type 0
IsAnswered step answer old new = IsStep step (code.Answer answer) old new

-- what is answered, as a step
abbrev pub answered_in : {E : Type 0} → Result (Vec ℕ Global) E → Result taken.Step E
answered_in (Ok text) = Ok (code.Answer text)
answered_in (Err e) = Err e

abbrev pub with_print_success : State → Bool → State
with_print_success s b = record s { options = record s.options { print_success = b } }

abbrev pub with_produce_models : State → Bool → State
with_produce_models s b = record s { options = record s.options { produce_models = b } }

abbrev pub with_produce_assumptions : State → Bool → State
with_produce_assumptions s b = record s { options = record s.options { produce_unsat_assumptions = b } }

abbrev pub with_global_declarations : State → Bool → State
with_global_declarations s b = record s { options = record s.options { global_declarations = b } }

-- a constant of this sort is declared
abbrev pub declares : Name → Sort → State → Step
declares name sort s = if is_taken (names_of s) name then fails_by (error.already_declared name) s
    else succeeds (declared name sort s)

-- what a form that was read is answered, where it is asserted
abbrev pub asserts : Result Term Fault → State → Step
asserts reading s = elim reading [
  | Ok term ↦ if is_same_sort boolean (sort_of term) then succeeds (with_assertion (asserted term) s)
      else fails_by error.wrong_sort s
  | Err fault ↦ refused_term fault s
]

-- what is answered to a question for values, by what is asked for
abbrev pub asks : List Item → State → Step
asks items s =
    if some_malformed items then fails_by error.malformed_command s
    else elim (first_unknown items) [ Some name ↦ fails_by (error.unknown_symbol name) s | None ↦ values_of items s ]
