-- Computed examples of what commands do by their shapes.
use Rattle.std.specs.Prelude.{◌≡◌, [], ◌∷◌, codes, Some, None, refl}
use Rattle.sb_reader.specs.Forms.{Form, Symbol, QuotedSymbol, Keyword, Numeral, Words}
use Rattle.sb_script.specs.ReadingExamples.{group}
use Rattle.sb_script.specs.Steps.{succeeds, is_unsupported}
use Rattle.sb_script.specs.Options.{get_option, get_info}
use Rattle.sb_script.specs.Replies.{declare_constant, declare_function, push, pop, check_sat_assuming, get_value, get_unsat_assumptions, echo, reset, reset_assertions, commands, shaped_by, shaped, command_of}

abbrev one : Form
one = Numeral (codes "1")

abbrev x : Form
x = Symbol (codes "x")

abbrev bool : Form
bool = Symbol (codes "Bool")

-- one level where no number stands, and one number at most
one_level : shaped_by commands (codes "push") [] ≡ Some (push 1)
one_level = refl

some_levels : shaped_by commands (codes "pop") (Numeral (codes "12") ∷ []) ≡ Some (pop 12)
some_levels = refl

two_numbers : shaped_by commands (codes "push") (one ∷ one ∷ []) ≡ None
two_numbers = refl

a_name_of_levels : shaped_by commands (codes "pop") (x ∷ []) ≡ None
a_name_of_levels = refl

-- a wrong shape comes first, also of what is left out
asks_for_assumptions : shaped (codes "get-unsat-assumptions") [] ≡ Some get_unsat_assumptions
asks_for_assumptions = refl

a_number_too_many : shaped (codes "get-unsat-assumptions") (one ∷ []) ≡ None
a_number_too_many = refl

assumes : shaped (codes "check-sat-assuming") (group (x ∷ []) ∷ []) ≡ Some (check_sat_assuming (x ∷ []))
assumes = refl

assumes_no_list : shaped (codes "check-sat-assuming") (x ∷ []) ≡ None
assumes_no_list = refl

asks_for_a_core : shaped (codes "get-unsat-core") [] ≡ Some is_unsupported
asks_for_a_core = refl

asks_for_too_much : shaped (codes "get-unsat-core") (one ∷ []) ≡ None
asks_for_too_much = refl

answered_by_shape : shaped (codes "push") (one ∷ one ∷ []) ≡ None
answered_by_shape = refl

left_out_for_good : shaped_by commands (codes "declare-sort") (one ∷ []) ≡ Some is_unsupported
left_out_for_good = refl

-- assumptions are any forms but keywords and reserved words, and there may be none
no_assumption : shaped_by commands (codes "check-sat-assuming") (group [] ∷ []) ≡ Some (check_sat_assuming [])
no_assumption = refl

any_assumption : shaped_by commands (codes "check-sat-assuming") (group (x ∷ one ∷ []) ∷ [])
    ≡ Some (check_sat_assuming (x ∷ one ∷ []))
any_assumption = refl

a_keyword_assumed : shaped_by commands (codes "check-sat-assuming") (group (Keyword (codes ":x") ∷ []) ∷ []) ≡ None
a_keyword_assumed = refl

a_reserved_word_assumed :
    shaped_by commands (codes "check-sat-assuming") (group (group (Symbol (codes "not") ∷ Symbol (codes "let") ∷ []) ∷
    []) ∷ [])
    ≡ None
a_reserved_word_assumed = refl

assumptions_without_a_list : shaped_by commands (codes "check-sat-assuming") (x ∷ []) ≡ None
assumptions_without_a_list = refl

-- values are asked for in a list that is not empty, of anything but keywords
a_text_asked : shaped_by commands (codes "get-value") (group (Words (codes "a") ∷ []) ∷ [])
    ≡ Some (get_value (Words (codes "a") ∷ []))
a_text_asked = refl

a_keyword_asked : shaped_by commands (codes "get-value") (group (Keyword (codes ":x") ∷ []) ∷ []) ≡ None
a_keyword_asked = refl

nothing_asked : shaped_by commands (codes "get-value") (group [] ∷ []) ≡ None
nothing_asked = refl

-- what follows a keyword
anything_behind : shaped_by commands (codes "set-info") (Keyword (codes ":status") ∷ one ∷ x ∷ []) ≡ Some succeeds
anything_behind = refl

nothing_behind : shaped_by commands (codes "set-info") (Keyword (codes ":status") ∷ []) ≡ Some succeeds
nothing_behind = refl

no_keyword : shaped_by commands (codes "set-info") (x ∷ []) ≡ None
no_keyword = refl

an_option_without_value : shaped_by commands (codes "set-option") (Keyword (codes ":print-success") ∷ []) ≡ None
an_option_without_value = refl

an_option_asked : shaped_by commands (codes "get-option") (Keyword (codes ":print-success") ∷ [])
    ≡ Some (get_option (codes ":print-success"))
an_option_asked = refl

an_information_asked : shaped_by commands (codes "get-info") (Keyword (codes ":name") ∷ [])
    ≡ Some (get_info (codes ":name"))
an_information_asked = refl

-- a text that is echoed
a_text : shaped_by commands (codes "echo") (Words (codes "a\"\"b") ∷ []) ≡ Some (echo (codes "a\"\"b"))
a_text = refl

no_text : shaped_by commands (codes "echo") (x ∷ []) ≡ None
no_text = refl

resets : shaped_by commands (codes "reset") [] ≡ Some reset
resets = refl

resets_assertions : shaped_by commands (codes "reset-assertions") [] ≡ Some reset_assertions
resets_assertions = refl

-- these are answered
echoes : shaped (codes "echo") (Words (codes "a") ∷ []) ≡ Some (echo (codes "a"))
echoes = refl

two_texts : shaped (codes "echo") (Words (codes "a") ∷ Words (codes "b") ∷ []) ≡ None
two_texts = refl

asks_for_an_option : shaped (codes "get-option") (Keyword (codes ":seed") ∷ [])
    ≡ Some (get_option (codes ":seed"))
asks_for_an_option = refl

no_key : shaped (codes "get-option") (x ∷ []) ≡ None
no_key = refl

asks_for_information : shaped (codes "get-info") (Keyword (codes ":name") ∷ []) ≡ Some (get_info (codes ":name"))
asks_for_information = refl

too_many_keys : shaped (codes "get-info") (Keyword (codes ":name") ∷ Keyword (codes ":version") ∷ []) ≡ None
too_many_keys = refl

sets_information : shaped (codes "set-info") (Keyword (codes ":source") ∷ group [] ∷ []) ≡ Some succeeds
sets_information = refl

no_information : shaped (codes "set-info") [] ≡ None
no_information = refl

-- a wrong shape comes first, also of what is left out
a_sort_too_many : shaped (codes "declare-fun") (Symbol (codes "g") ∷ group [] ∷ Symbol (codes "Int") ∷ one ∷ []) ≡ None
a_sort_too_many = refl

no_parameter : shaped (codes "define-fun") (Symbol (codes "f") ∷ group (x ∷ []) ∷ bool ∷ Symbol (codes "true") ∷ [])
    ≡ None
no_parameter = refl

-- a function without arguments is a constant
without_arguments : shaped (codes "declare-fun") (x ∷ group [] ∷ Symbol (codes "String") ∷ [])
    ≡ Some (declare_constant (codes "x") (Symbol (codes "String")))
without_arguments = refl

-- a function with arguments is left out
with_arguments : shaped (codes "declare-fun") (Symbol (codes "g") ∷ group (bool ∷ []) ∷ bool ∷ [])
    ≡ Some (declare_function (codes "g"))
with_arguments = refl

-- the sort of a declaration is a symbol, or a list that begins with one; a reserved word is an unknown sort
a_number_as_a_sort : shaped (codes "declare-const") (x ∷ one ∷ []) ≡ None
a_number_as_a_sort = refl

-- only a symbol without bars begins a command
a_quoted_command : command_of (group (QuotedSymbol (codes "check-sat") ∷ [])) ≡ None
a_quoted_command = refl
