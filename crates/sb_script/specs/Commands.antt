-- The shapes of commands, by their forms alone (SMT-LIB 2.6, section 3.9). A form of another shape is malformed.
use Rattle.std.specs.Prelude.{ℕ, Bool, true, false, not, ◌&&◌, ◌||◌, if◌then◌else◌, List, [], ◌∷◌, codes, Option, Some, None, option_map}
use Rattle.std.specs.List.{list_all}
use Rattle.sb_reader.specs.Forms.{Form, Forms, Symbol, QuotedSymbol, Keyword, Numeral, Words, Group, none, more}
use Rattle.sb_script.specs.Names.{Name, is_name, is_reserved, begins_term}
use Rattle.sb_script.specs.Texts.{number_of}

-- a parameter of a definition, with its sort
abbrev pub Parameter : Type 0
Parameter = Name × Form

abbrev pub list_of : Forms → List Form
list_of none = []
list_of (more form forms) = form ∷ list_of forms

-- a symbol, written between bars or not
abbrev pub symbol_in : Form → Option Name
symbol_in (Symbol name) = Some name
symbol_in (QuotedSymbol name) = Some name
symbol_in _ = None

-- a name that may be declared: no reserved word, unless it is written between bars
abbrev pub declarable : Form → Option Name
declarable (Symbol name) = if is_reserved name then None else Some name
declarable (QuotedSymbol name) = Some name
declarable _ = None

-- a sort by its shape: a symbol, or a list that begins with one
abbrev pub is_sort_form : Form → Bool
is_sort_form (Symbol name) = true
is_sort_form (QuotedSymbol name) = true
is_sort_form (Group (more (Symbol name) forms)) = true
is_sort_form (Group (more (QuotedSymbol name) forms)) = true
is_sort_form _ = false

-- (name sort), a parameter of a definition
abbrev pub is_parameter : Form → Bool
is_parameter (Group (more (Symbol name) (more sort none))) = not (is_reserved name) && is_sort_form sort
is_parameter (Group (more (QuotedSymbol name) (more sort none))) = is_sort_form sort
is_parameter _ = false

abbrev pub parameters_of : List Form → List Parameter
parameters_of [] = []
parameters_of (Group (more (Symbol name) (more sort none)) ∷ forms) = (name, sort) ∷ parameters_of forms
parameters_of (Group (more (QuotedSymbol name) (more sort none)) ∷ forms) = (name, sort) ∷ parameters_of forms
parameters_of (_ ∷ forms) = parameters_of forms

-- what may stand in a list of terms whose values are asked for
abbrev pub is_item : Form → Bool
is_item (Keyword name) = false
is_item _ = true

-- The shapes of what follows a command's name. Each takes what is made of the parts.

abbrev pub logic_shape : {A : Type 0} → (Name → A) → List Form → Option A
logic_shape make (logic ∷ []) = option_map make (symbol_in logic)
logic_shape make _ = None

-- an option's keyword, and its value
abbrev pub option_shape : {A : Type 0} → (Name → Form → A) → List Form → Option A
option_shape make (Keyword key ∷ value ∷ []) = Some (make key value)
option_shape make _ = None

-- a constant's name and sort
abbrev pub constant_shape : {A : Type 0} → (Name → Form → A) → List Form → Option A
constant_shape make (name ∷ sort ∷ []) =
    if is_sort_form sort then option_map (λ n. make n sort) (declarable name) else None
constant_shape make _ = None

-- a function's name, the sorts of its arguments and its own
abbrev pub function_shape : {A : Type 0} → (Name → List Form → Form → A) → List Form → Option A
function_shape make (name ∷ Group sorts ∷ sort ∷ []) =
    if list_all is_sort_form (list_of sorts) && is_sort_form sort
    then option_map (λ n. make n (list_of sorts) sort) (declarable name) else None
function_shape make _ = None

-- a function's name, its parameters, its sort and its body
abbrev pub definition_shape : {A : Type 0} → (Name → List Parameter → Form → Form → A) → List Form → Option A
definition_shape make (name ∷ Group parameters ∷ sort ∷ body ∷ []) =
    if list_all is_parameter (list_of parameters) && is_sort_form sort
    then option_map (λ n. make n (parameters_of (list_of parameters)) sort body) (declarable name) else None
definition_shape make _ = None

abbrev pub assert_shape : {A : Type 0} → (Form → A) → List Form → Option A
assert_shape make (term ∷ []) = Some (make term)
assert_shape make _ = None

abbrev pub value_shape : {A : Type 0} → (List Form → A) → List Form → Option A
value_shape make (Group (more item items) ∷ []) =
    if list_all is_item (item ∷ list_of items) then Some (make (item ∷ list_of items)) else None
value_shape make _ = None

-- an option or an information that is asked for
abbrev pub keyword_shape : {A : Type 0} → (Name → A) → List Form → Option A
keyword_shape make (Keyword key ∷ []) = Some (make key)
keyword_shape make _ = None

-- a keyword, and anything behind it
abbrev pub info_shape : {A : Type 0} → A → List Form → Option A
info_shape made (Keyword key ∷ forms) = Some made
info_shape made _ = None

-- how many levels: one where no number stands
abbrev pub levels_shape : {A : Type 0} → (ℕ → A) → List Form → Option A
levels_shape make [] = Some (make 1)
levels_shape make (Numeral digits ∷ []) = Some (make (number_of digits))
levels_shape make _ = None

-- an assumption that is a bare reserved word, alone or behind `not`, has no shape
abbrev pub is_assumption_form : Form → Bool
is_assumption_form (Keyword name) = false
is_assumption_form (Symbol name) = begins_term name || not (is_reserved name)
is_assumption_form (Group (more (Symbol head) (more (Symbol name) none))) =
    not (is_name head (codes "not")) || (begins_term name || not (is_reserved name))
is_assumption_form _ = true

abbrev pub assuming_shape : {A : Type 0} → (List Form → A) → List Form → Option A
assuming_shape make (Group forms ∷ []) =
    if list_all is_assumption_form (list_of forms) then Some (make (list_of forms)) else None
assuming_shape make _ = None

-- the bytes between the quotes
abbrev pub echo_shape : {A : Type 0} → (List ℕ → A) → List Form → Option A
echo_shape make (Words bytes ∷ []) = Some (make bytes)
echo_shape make _ = None

-- a command without arguments
abbrev pub bare : {A : Type 0} → A → List Form → Option A
bare made [] = Some made
bare made (argument ∷ arguments) = None
