-- The reply to each entry of a script, and the state after it (SMT-LIB 2.6, section 4.2): the commands, each by its
-- name, the shape of what follows it, and what it does. For each the errors stand in the order in which they are looked
-- for; after an error the state is as before.
use Rattle.std.specs.Prelude.{ℕ, ◌+◌, Bool, true, false, not, ◌==◌, nat_le, if◌then◌else◌, List, [], ◌∷◌, ◌++◌, map, length, codes, Option, Some, None, option_map, Result, Ok, Err}
use Rattle.sb_reader.specs.Forms.{Form, Symbol, QuotedSymbol, Group, none, more}
use Rattle.sb_reader.specs.Entries.{Entry, Command, Refused}
use Rattle.sb_script.specs.Names.{Name, is_name, is_reserved, begins_term, name_text, found_in}
use Rattle.sb_meaning.specs.Terms.{Sort, Term, boolean, integer, text, reglan, parameter}
use Rattle.sb_meaning.specs.Values.{Valuation, value_in}
use Rattle.sb_meaning.specs.Printed.{printed}
use Rattle.sb_meaning.specs.Sorts.{sort_of, is_same_sort}
use Rattle.sb_script.specs.Symbols.{sort_named, is_theory_name, is_taken}
use Rattle.sb_script.specs.Scopes.{Constant, Naming, a_constant, a_term, named}
use Rattle.sb_script.specs.Faults.{Fault}
use Rattle.sb_script.specs.Reading.{read, first_again}
use Rattle.sb_script.specs.Errors as error
use Rattle.sb_script.specs.Errors.{Error, first_of}
use Rattle.sb_script.specs.Brought.{functions, definitions, is_brought}
use Rattle.sb_script.specs.Commands.{Parameter, list_of, symbol_in, logic_shape, option_shape, constant_shape, function_shape, definition_shape, assert_shape, value_shape, keyword_shape, info_shape, levels_shape, assuming_shape, echo_shape, bare}
use Rattle.sb_script.specs.State.{State, Mode, plain, satisfied, refuted, undecided, asserted, Assumption, names_of, constants_of, declared, defined, marked, with_assertion, pushed, popped, without_assertions, start_behind}
use Rattle.sb_script.specs.Steps.{Step, answers, leaves, checks, exits, above, all, line, quoted, success, fails_by, succeeds, is_unsupported, refusal_error, fault_error, refused_term, list_text}
use Rattle.sb_script.specs.Options.{set_logic, set_option, get_option, get_info}

-- what a command does, and what is made of the forms behind its name
abbrev pub Effect : Type 0
Effect = State → Step

abbrev pub Shape : Type 0
Shape = List Form → Option Effect

-- Declarations.

abbrev pub sort_of_form : Form → Option Sort
sort_of_form sort = elim (symbol_in sort) [ Some name ↦ sort_named name | None ↦ None ]

-- a constant of a sort that is left out has a marked name
abbrev pub declare_constant : Name → Form → Effect
declare_constant name sort s =
    if is_taken (names_of s) name then fails_by (error.already_declared name) s
    else elim (sort_of_form sort)
    [ Some sort ↦ succeeds (declared name sort s) | None ↦ is_unsupported (marked name s) ]

-- a function, which is left out
abbrev pub declare_function : Name → Effect
declare_function name s = if is_taken (names_of s) name then fails_by (error.already_declared name) s
    else is_unsupported (marked name s)

-- a function without arguments is a constant
abbrev pub function_of : Name → List Form → Form → Effect
function_of name [] sort = if is_brought functions then declare_constant name sort else declare_function name
function_of name (s ∷ ss) sort = declare_function name

-- Definitions.

-- the sort of a parameter, or of what a definition makes
abbrev pub sort_in_definition : Form → Option Sort
sort_in_definition form = elim (symbol_in form) [
  | Some name ↦ if is_name name (codes "RegLan") then Some reglan else sort_named name
  | None ↦ None
]

abbrev pub sorts_in_definition : List Parameter → Option (List Sort)
sorts_in_definition [] = Some []
sorts_in_definition (p ∷ ps) = elim (sort_in_definition p.1) [
  | Some sort ↦ option_map (λ sorts. sort ∷ sorts) (sorts_in_definition ps)
  | None ↦ None
]

abbrev pub names_of_parameters : List Parameter → List Name
names_of_parameters ps = map (λ p. p.0) ps

-- the parameters as they stand for their places in the body, from this one on
abbrev pub bound_from : ℕ → List Parameter → List Sort → List Naming
bound_from place (p ∷ ps) (sort ∷ sorts) = (p.0, a_term (parameter place sort)) ∷ bound_from (place + 1) ps sorts
bound_from place _ _ = []

-- the errors of the names, in reading order
abbrev pub name_errors : Name → List Parameter → State → List Error
name_errors name parameters s =
    (if is_taken (names_of s) name then error.already_declared name ∷ [] else [])
    ++ elim (first_again [] (names_of_parameters parameters))
    [ Some twice ↦ error.already_declared twice ∷ [] | None ↦ [] ]

-- the errors of the body, where its sort is to be this one
abbrev pub body_errors : Sort → Result Term Fault → List Error
body_errors sort (Ok body) = if is_same_sort sort (sort_of body) then [] else error.wrong_sort ∷ []
body_errors sort (Err fault) = elim (fault_error fault) [ Some e ↦ e ∷ [] | None ↦ [] ]

-- the first of these errors, or else this
abbrev pub unless_error : List Error → Step → State → Step
unless_error errors step s = elim (first_of errors) [ Some e ↦ fails_by e s | None ↦ step ]

-- a body that is left out marks the name
abbrev pub defines : Name → List Sort → Result Term Fault → State → Step
defines name sorts (Ok body) s = succeeds (defined name sorts body s)
defines name sorts (Err fault) s = is_unsupported (marked name s)

abbrev pub define_by : Name → List Parameter → List Sort → Sort → Form → State → Step
define_by name parameters sorts sort body s =
    let reading = read (bound_from 0 parameters sorts ++ names_of s) body in
    unless_error (name_errors name parameters s ++ body_errors sort reading) (defines name sorts reading s) s

-- where a sort is left out the body is not read
abbrev pub define_function : Name → List Parameter → Form → Form → Effect
define_function name parameters sort body s = elim (sorts_in_definition parameters) [
  | Some sorts ↦ elim (sort_in_definition sort) [
    | Some made ↦ define_by name parameters sorts made body s
    | None ↦ unless_error (name_errors name parameters s) (is_unsupported (marked name s)) s
  ]
  | None ↦ unless_error (name_errors name parameters s) (is_unsupported (marked name s)) s
]

abbrev pub definition_of : Name → List Parameter → Form → Form → Effect
definition_of name parameters sort body =
    if is_brought definitions then define_function name parameters sort body else declare_function name

-- Assertions and levels.

abbrev pub assert : Form → Effect
assert form s = elim (read (names_of s) form) [
  | Ok term ↦ if is_same_sort boolean (sort_of term) then succeeds (with_assertion (asserted term) s)
      else fails_by error.wrong_sort s
  | Err fault ↦ refused_term fault s
]

abbrev pub level_limit : ℕ
level_limit = 65535

abbrev pub push : ℕ → Effect
push n s = if nat_le (n + length s.above) level_limit then succeeds (pushed n s) else fails_by error.numeral_too_large s

abbrev pub pop : ℕ → Effect
pop n s =
    if nat_le n (length s.above) then (let new = popped n s in leaves (above (length new.above)) (success new) new)
    else fails_by error.no_such_level s

abbrev pub reset_assertions : Effect
reset_assertions s = let new = without_assertions s in leaves all (success new) new

-- serials go on
abbrev pub reset : Effect
reset s = let new = start_behind s.sorts in leaves all (success new) new

-- Assumptions.

-- what an item of a list of assumptions is
pub data Assumed : Type 0 where
  an_assumption : Assumption → Assumed
  an_error : Error → Assumed

-- a declared Bool constant, or its negation
abbrev pub assumed_name : State → Bool → Name → Assumed
assumed_name s positive name = elim (named (names_of s) name) [
  | Some (a_constant serial sort) ↦ if is_same_sort boolean sort then an_assumption (serial, positive)
      else an_error error.wrong_sort
  | Some _ ↦ an_error error.not_a_literal
  | None ↦ if is_theory_name name then an_error error.not_a_literal else an_error (error.unknown_symbol name)
]

-- a symbol that begins a term of its own shape is no literal
abbrev pub assumed_bare : State → Bool → Name → Assumed
assumed_bare s positive name = if begins_term name then an_error error.not_a_literal else assumed_name s positive name

-- the symbol `not`, written between bars or not
abbrev pub is_not : Form → Bool
is_not form = elim (symbol_in form) [ Some name ↦ is_name name (codes "not") | None ↦ false ]

abbrev pub assumed_form : State → Form → Assumed
assumed_form s (Symbol name) = assumed_bare s true name
assumed_form s (QuotedSymbol name) = assumed_name s true name
assumed_form s (Group (more head (more (Symbol name) none))) =
    if is_not head then assumed_bare s false name else an_error error.not_a_literal
assumed_form s (Group (more head (more (QuotedSymbol name) none))) =
    if is_not head then assumed_name s false name else an_error error.not_a_literal
assumed_form s _ = an_error error.not_a_literal

abbrev pub errors_in : List Assumed → List Error
errors_in [] = []
errors_in (an_assumption a ∷ items) = errors_in items
errors_in (an_error e ∷ items) = e ∷ errors_in items

abbrev pub assumptions_in : List Assumed → List Assumption
assumptions_in [] = []
assumptions_in (an_assumption a ∷ items) = a ∷ assumptions_in items
assumptions_in (an_error e ∷ items) = assumptions_in items

abbrev pub check_sat_assuming : List Form → Effect
check_sat_assuming forms s =
    let items = map (assumed_form s) forms in unless_error (errors_in items) (checks (assumptions_in items)) s

-- the name of the constant of a serial
abbrev pub name_of : List Constant → ℕ → Name
name_of [] serial = []
name_of (c ∷ cs) serial = if c.serial == serial then c.name else name_of cs serial

abbrev pub assumption_text : State → Assumption → List ℕ
assumption_text s (serial, true) = name_text (name_of (constants_of s) serial)
assumption_text s (serial, false) = codes "(not " ++ (name_text (name_of (constants_of s) serial) ++ codes ")")

-- the assumptions of the last check that contradict what is asserted
abbrev pub contradicted : Mode → State → Step
contradicted (refuted assumptions) s = answers (line (list_text (map (assumption_text s) assumptions))) s
contradicted plain s = fails_by error.no_unsat_answer s
contradicted (satisfied v) s = fails_by error.no_unsat_answer s
contradicted undecided s = fails_by error.no_unsat_answer s

abbrev pub get_unsat_assumptions : Effect
get_unsat_assumptions s = if s.options.produce_unsat_assumptions then contradicted s.mode s
    else fails_by error.assumptions_not_enabled s

-- Values.

abbrev pub sort_text : Sort → List ℕ
sort_text boolean = codes "Bool"
sort_text integer = codes "Int"
sort_text text = codes "String"
sort_text reglan = codes "RegLan"

-- (define-fun c () String "word")
abbrev pub definition_text : Valuation → Constant → List ℕ
definition_text v c =
    codes "(define-fun " ++
    (name_text c.name
    ++ (codes " () " ++ (sort_text c.sort ++ (codes " " ++ (printed (value_in v c.serial c.sort) ++ codes ")")))))

-- (c "word"), with the name under which it was asked for
abbrev pub value_text : Valuation → Name × (ℕ × Sort) → List ℕ
value_text v asked = codes "("
    ++ (name_text asked.0 ++ (codes " " ++ (printed (value_in v asked.1.0 asked.1.1) ++ codes ")")))

-- with the values of the last check, where models are on and it was sat
abbrev pub with_values : State → (Valuation → Step) → Step
with_values s answer =
    if not s.options.produce_models then fails_by error.models_not_enabled s
    else elim s.mode [
      | satisfied v ↦ answer v
      | plain ↦ fails_by error.no_model s
      | refuted assumptions ↦ fails_by error.no_model s
      | undecided ↦ fails_by error.no_model s
    ]

abbrev pub get_model : Effect
get_model s = with_values s (λ v. answers (line (list_text (map (definition_text v) (constants_of s)))) s)

-- what an item of a list of asked values is
pub data Item : Type 0 where
  item_constant : Name → ℕ → Sort → Item
  item_unknown : Name → Item
  item_malformed : Item
  -- known or composite, and no declared constant
  item_other : Item

abbrev pub item_named : State → Name → Item
item_named s name = elim (named (names_of s) name) [
  | Some (a_constant serial sort) ↦ item_constant name serial sort
  | Some _ ↦ item_other
  | None ↦ if is_theory_name name then item_other else item_unknown name
]

abbrev pub item_of : State → Form → Item
item_of s (Symbol name) = if begins_term name then item_other else if is_reserved name then item_malformed
    else item_named s name
item_of s (QuotedSymbol name) = item_named s name
item_of s _ = item_other

abbrev pub some_malformed : List Item → Bool
some_malformed [] = false
some_malformed (item_malformed ∷ items) = true
some_malformed (_ ∷ items) = some_malformed items

abbrev pub first_unknown : List Item → Option Name
first_unknown [] = None
first_unknown (item_unknown name ∷ items) = Some name
first_unknown (_ ∷ items) = first_unknown items

-- the constants, where there is nothing else
abbrev pub all_constants : List Item → Option (List (Name × (ℕ × Sort)))
all_constants [] = Some []
all_constants (item_constant name serial sort ∷ items) =
    elim (all_constants items) [ Some cs ↦ Some ((name, (serial, sort)) ∷ cs) | None ↦ None ]
all_constants (_ ∷ items) = None

abbrev pub values_of : List Item → State → Step
values_of items s = with_values s (λ v. elim (all_constants items) [
  | Some cs ↦ answers (line (list_text (map (value_text v) cs))) s
  | None ↦ is_unsupported s
])

abbrev pub get_value : List Form → Effect
get_value forms s =
    let items = map (item_of s) forms in
    if some_malformed items then fails_by error.malformed_command s
    else elim (first_unknown items) [ Some name ↦ fails_by (error.unknown_symbol name) s | None ↦ values_of items s ]

-- Checks, texts, and the end of the run.

abbrev pub check_sat : Effect
check_sat s = checks []

abbrev pub echo : List ℕ → Effect
echo bytes s = answers (line (quoted bytes)) s

abbrev pub exit : Effect
exit s = exits (success s)

-- The commands: each by its name, the shape of what follows it, and what it does.
abbrev pub commands : List (Name × Shape)
commands =
    (codes "assert", assert_shape assert)
    ∷ (codes "declare-const", constant_shape declare_constant)
    ∷ (codes "declare-fun", function_shape function_of)
    ∷ (codes "define-fun", definition_shape definition_of)
    ∷ (codes "push", levels_shape push)
    ∷ (codes "pop", levels_shape pop)
    ∷ (codes "check-sat", bare check_sat)
    ∷ (codes "check-sat-assuming", assuming_shape check_sat_assuming)
    ∷ (codes "get-model", bare get_model)
    ∷ (codes "get-value", value_shape get_value)
    ∷ (codes "get-unsat-assumptions", bare get_unsat_assumptions)
    ∷ (codes "get-unsat-core", bare is_unsupported)
    ∷ (codes "set-logic", logic_shape set_logic)
    ∷ (codes "set-option", option_shape set_option)
    ∷ (codes "get-option", keyword_shape get_option)
    ∷ (codes "set-info", info_shape succeeds)
    ∷ (codes "get-info", keyword_shape get_info)
    ∷ (codes "echo", echo_shape echo)
    ∷ (codes "reset-assertions", bare reset_assertions)
    ∷ (codes "reset", bare reset)
    ∷ (codes "exit", bare exit) ∷ []

-- What a command does, by its name, by a table, with what follows the name. A name that is not in the table is of a
-- command that is left out.
abbrev pub shaped_by : List (Name × Shape) → Name → Shape
shaped_by table name arguments =
    elim (found_in table name) [ Some shape ↦ shape arguments | None ↦ Some is_unsupported ]

abbrev pub shaped : Name → Shape
shaped name arguments = shaped_by commands name arguments

-- what the command of a form does: a list that begins with a symbol without bars
abbrev pub command_of : Form → Option Effect
command_of (Group (more (Symbol name) arguments)) = shaped name (list_of arguments)
command_of _ = None

-- what becomes of an entry
abbrev pub step_of : Entry → State → Step
step_of (Command form) s =
    elim (command_of form) [ Some effect ↦ effect s | None ↦ fails_by error.malformed_command s ]
step_of (Refused refusal) s = fails_by (refusal_error refusal) s

-- the entry ends the run
abbrev pub is_exit : Entry → Bool
is_exit (Command (Group (more (Symbol name) none))) = is_name name (codes "exit")
is_exit _ = false
