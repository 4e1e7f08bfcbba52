-- Options, the logic, and what may be asked of the solver itself (SMT-LIB 2.6, sections 4.1.6, 4.1.7 and 4.1.8).
use Rattle.std.specs.Prelude.{ℕ, ◌^◌, Bool, true, false, ◌||◌, nat_lt, if◌then◌else◌, List, [], ◌∷◌, ◌++◌, map, filter, codes, decimal, Option, Some, None}
use Rattle.sb_reader.specs.Forms.{Form, Numeral}
use Rattle.sb_script.specs.Names.{Name, is_name, found_in}
use Rattle.sb_script.specs.Brought.{an_option, is_brought}
use Rattle.sb_script.specs.Texts.{number_of}
use Rattle.sb_script.specs.Errors as error
use Rattle.sb_script.specs.Commands.{symbol_in}
use Rattle.sb_script.specs.State.{State, Mode, plain, satisfied, refuted, undecided}
use Rattle.sb_script.specs.Steps.{Step, answers, fails_by, succeeds, is_unsupported, line, quoted}

-- The logic.

abbrev pub is_logic : Name → Bool
is_logic name = is_name name (codes "ALL") || (is_name name (codes "QF_S") || is_name name (codes "QF_SLIA"))

abbrev pub set_logic : Name → State → Step
set_logic name s =
    if s.logic_set then fails_by error.logic_already_set s
    else if is_logic name then succeeds (record s { logic_set = true; begun = true })
    else is_unsupported s

-- true or false, by name
abbrev pub truth_named : Name → Option Bool
truth_named name = if is_name name (codes "true") then Some true else if is_name name (codes "false") then Some false
    else None

-- the truth value of an option
abbrev pub truth_in : Form → Option Bool
truth_in value = elim (symbol_in value) [ Some name ↦ truth_named name | None ↦ None ]

-- The options, each by what it becomes of a value.

abbrev pub with_truth : Form → (Bool → State) → State → Step
with_truth value new s = elim (truth_in value) [ Some b ↦ succeeds (new b) | None ↦ fails_by error.bad_option_value s ]

abbrev pub set_print_success : Form → State → Step
set_print_success value s = with_truth value (λ b. record s { options = record s.options { print_success = b } }) s

abbrev pub set_produce_models : Form → State → Step
set_produce_models value s = with_truth value (λ b. record s { options = record s.options { produce_models = b } }) s

abbrev pub set_produce_assumptions : Form → State → Step
set_produce_assumptions value s =
    with_truth value (λ b. record s { options = record s.options { produce_unsat_assumptions = b } }) s

-- whether declarations are global is said before anything is declared, defined or asserted
abbrev pub set_global_declarations : Form → State → Step
set_global_declarations value s =
    if s.begun then fails_by error.option_too_late s
    else with_truth value (λ b. record s { options = record s.options { global_declarations = b } }) s

abbrev pub with_limit : ℕ → State → Step
with_limit n s = if nat_lt n (2 ^ 64) then succeeds (record s { options = record s.options { resource_limit = n } })
    else fails_by error.numeral_too_large s

abbrev pub set_resource_limit : Form → State → Step
set_resource_limit (Numeral digits) s = with_limit (number_of digits) s
set_resource_limit _ s = fails_by error.bad_option_value s

abbrev pub truth_text : Bool → List ℕ
truth_text true = codes "true"
truth_text false = codes "false"

-- the options by key: what a value makes of the state, and the text of the value
abbrev pub options : List (Name × ((Form → State → Step) × (State → List ℕ)))
options =
    (codes ":print-success", (set_print_success, λ s. truth_text s.options.print_success))
    ∷ (codes ":produce-models", (set_produce_models, λ s. truth_text s.options.produce_models))
    ∷ (
      codes ":produce-unsat-assumptions",
      (set_produce_assumptions, λ s. truth_text s.options.produce_unsat_assumptions),
    )
    ∷ (codes ":global-declarations", (set_global_declarations, λ s. truth_text s.options.global_declarations))
    ∷ (codes ":reproducible-resource-limit", (set_resource_limit, λ s. decimal s.options.resource_limit)) ∷ []

abbrev pub settings : List (Name × (Form → State → Step))
settings = map (λ row. (row.0, row.1.0)) options

abbrev pub option_texts : List (Name × (State → List ℕ))
option_texts = map (λ row. (row.0, row.1.1)) options

abbrev pub set_by : List (Name × (Form → State → Step)) → Name → Form → State → Step
set_by table key value s = elim (found_in table key) [ Some set ↦ set value s | None ↦ is_unsupported s ]

abbrev pub set_option : Name → Form → State → Step
set_option key value s = set_by (filter (λ row. is_brought (an_option row.0)) settings) key value s

-- Values of options, and what else may be asked for.

abbrev pub get_by : List (Name × (State → List ℕ)) → Name → State → Step
get_by table key s = elim (found_in table key) [ Some text ↦ answers (line (text s)) s | None ↦ is_unsupported s ]

abbrev pub get_option : Name → State → Step
get_option key s = get_by (filter (λ row. is_brought (an_option row.0)) option_texts) key s

-- what the solver says of itself
abbrev pub info_texts : List (Name × List ℕ)
info_texts =
    (codes ":name", codes "(:name " ++ (quoted (codes "strsolve") ++ codes ")"))
    ∷ (codes ":version", codes "(:version " ++ (quoted (codes "1") ++ codes ")"))
    ∷ (codes ":authors", codes "(:authors " ++ (quoted (codes "the strsolve authors") ++ codes ")"))
    ∷ (codes ":error-behavior", codes "(:error-behavior continued-execution)") ∷ []

-- why the last check was not decided
abbrev pub reason_unknown : Mode → State → Step
reason_unknown undecided s = answers (line (codes "(:reason-unknown resource-limit)")) s
reason_unknown plain s = fails_by error.no_unknown_answer s
reason_unknown (satisfied v) s = fails_by error.no_unknown_answer s
reason_unknown (refuted assumptions) s = fails_by error.no_unknown_answer s

abbrev pub get_info : Name → State → Step
get_info key s =
    if is_name key (codes ":reason-unknown") then reason_unknown s.mode s
    else elim (found_in info_texts key) [ Some text ↦ answers (line text) s | None ↦ is_unsupported s ]
