-- Private: assumptions of the code, as the definitions have them.
use Rattle.std.specs.Prelude.{ℕ, ◌+◌, Bool, true, false, ◌&&◌, nat_le, if◌then◌else◌, List, [], ◌∷◌, ◌++◌, codes, Option, Some, None}
use Rattle.sb_meaning.specs.Terms.{Sort, boolean}
use Rattle.sb_script.specs.Errors as error
use Rattle.sb_script.specs.Errors.{Error}
use Rattle.sb_script.specs.Names.{Name, name_text}
use Rattle.sb_script.specs.Replies as meaning
use Rattle.sb_script.specs.Scopes as scopes
use Rattle.sb_script.specs.State.{State, Assumption}
use Rattle.sb_script.specs.Steps.{Step, checks, fails_by}
use Rattle.sb_stack.specs.Speaking.{is_one_of}
use Rattle.sb_stack.specs.declared.assuming.Assumed.{Assumed}
use Rattle.sb_stack.specs.declared.assuming.Assumed.TheVariants as code

abbrev pub assumed_in : Assumed → meaning.Assumed
assumed_in (code.Literal serial positive) = meaning.an_assumption (serial.0, positive)
assumed_in (code.Unknown name) = meaning.an_error (error.unknown_symbol name.now)
assumed_in code.WrongSort = meaning.an_error error.wrong_sort
assumed_in code.NotALiteral = meaning.an_error error.not_a_literal

-- the first name that stands for nothing
abbrev pub first_unknown_in : List Assumed → Option Name
first_unknown_in [] = None
first_unknown_in (code.Unknown name ∷ items) = Some name.now
first_unknown_in (_ ∷ items) = first_unknown_in items

abbrev pub some_wrong_sort : List Assumed → Bool
some_wrong_sort [] = false
some_wrong_sort (code.WrongSort ∷ items) = true
some_wrong_sort (_ ∷ items) = some_wrong_sort items

-- the assumptions, where there is nothing else
abbrev pub all_literals : List Assumed → Option (List Assumption)
all_literals [] = Some []
all_literals (code.Literal serial positive ∷ items) =
    elim (all_literals items) [ Some others ↦ Some ((serial.0, positive) ∷ others) | None ↦ None ]
all_literals (_ ∷ items) = None

-- the error of a list of items, if there is one
abbrev pub error_among : List Assumed → Option Error
error_among items = elim (first_unknown_in items) [
  | Some name ↦ Some (error.unknown_symbol name)
  | None ↦ if some_wrong_sort items then Some error.wrong_sort
      else elim (all_literals items) [ Some all ↦ None | None ↦ Some error.not_a_literal ]
]

-- what is answered to a check under these items, where all names stand for something, and else
abbrev pub assumes_known : List Assumed → State → Step
assumes_known items s =
    if some_wrong_sort items then fails_by error.wrong_sort s
    else elim (all_literals items) [ Some all ↦ checks all | None ↦ fails_by error.not_a_literal s ]

abbrev pub assumes : List Assumed → State → Step
assumes items s = elim (first_unknown_in items) [
  | Some name ↦ fails_by (error.unknown_symbol name) s
  | None ↦ assumes_known items s
]

-- where the item is an assumption it is of one of these constants, of sort Bool
abbrev pub is_live_assumed : List (ℕ × Sort) → meaning.Assumed → Bool
is_live_assumed cs (meaning.an_assumption a) = is_one_of cs a.0 boolean
is_live_assumed cs (meaning.an_error e) = true

-- the numbers rise, from this one on
abbrev pub rise : ℕ → List ℕ → Bool
rise from [] = true
rise from (n ∷ ns) = nat_le from n && rise (n + 1) ns

-- an assumption by the name of its constant, and as it is printed then
abbrev pub named_by : List scopes.Constant → Assumption → Name × Bool
named_by cs a = (meaning.name_of cs a.0, a.1)

abbrev pub assumption_said : Name × Bool → List ℕ
assumption_said (name, true) = name_text name
assumption_said (name, false) = codes "(not " ++ (name_text name ++ codes ")")
