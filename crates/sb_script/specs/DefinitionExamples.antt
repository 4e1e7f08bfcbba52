-- Computed examples of definitions, and of `let`.
use Rattle.std.specs.Prelude.{◌≡◌, ℕ, List, [], ◌∷◌, ◌++◌, codes, Ok, Err, refl}
use Rattle.sb_reader.specs.Forms.{Form, Symbol, Words}
use Rattle.sb_meaning.specs.Terms.{Term, text, boolean, constant, word, apply, parameter, no_terms, with_term}
use Rattle.sb_meaning.specs.Terms as symbol
use Rattle.sb_script.specs.Scopes.{Naming, a_constant}
use Rattle.sb_script.specs.Faults.{unknown_symbol, wrong_count, already_bound}
use Rattle.sb_script.specs.Reading.{read_let}
use Rattle.sb_script.specs.Commands.{Parameter}
use Rattle.sb_script.specs.State.{live, asserted, a_mark}
use Rattle.sb_script.specs.Replies as command
use Rattle.sb_script.specs.Replies.{Effect}
use Rattle.sb_script.specs.ReadingExamples.{forms, group, range}
use Rattle.sb_script.specs.StepExamples.{said_of, after, some_constants}

abbrev named : List ℕ → Form
named name = Symbol name

abbrev a_range : Form
a_range = range (Words (codes "a")) (Words (codes "b"))

abbrev range_term : Term
range_term = apply symbol.re_range (with_term (word (codes "a")) (with_term (word (codes "b")) no_terms))

-- (str.in_re form (re.range "a" "b"))
abbrev member : Form → Form
member form = group (named (codes "str.in_re") ∷ form ∷ a_range ∷ [])

abbrev member_term : Term → Term
member_term t = apply symbol.str_in_re (with_term t (with_term range_term no_terms))

abbrev binding : List ℕ → Form → Form
binding name form = group (named name ∷ form ∷ [])

-- x is a String constant, and y another
abbrev names : List Naming
names = (codes "x", a_constant 0 text) ∷ (codes "y", a_constant 1 text) ∷ []

-- Let.

-- (let ((a x)) (str.in_re a R))
a_let : read_let names (forms (group (binding (codes "a") (named (codes "x")) ∷ []) ∷ member (named (codes "a")) ∷ []))
    ≡ Ok (member_term (constant 0 text))
a_let = refl

-- the values are read in the outer scope, and bound at once: (let ((x y) (y x)) (str.in_re x R))
at_once : read_let names
    (forms (group (binding (codes "x") (named (codes "y")) ∷ binding (codes "y") (named (codes "x")) ∷ []) ∷ member
    (named (codes "x")) ∷ [])) ≡ Ok (member_term (constant 1 text))
at_once = refl

-- a bound name hides every other, a symbol too: (let ((str.to_re x)) (str.in_re str.to_re R))
hides_a_symbol :
    read_let names
    (forms (group (binding (codes "str.to_re") (named (codes "x")) ∷ []) ∷ member (named (codes "str.to_re")) ∷ []))
    ≡ Ok (member_term (constant 0 text))
hides_a_symbol = refl

-- what is bound is whole: (let ((a x)) (a "c"))
bound_takes_nothing :
    read_let names
    (forms (group (binding (codes "a") (named (codes "x")) ∷ []) ∷ group (named (codes "a") ∷ Words (codes "c") ∷
    []) ∷ []))
    ≡ Err wrong_count
bound_takes_nothing = refl

-- a name twice is found behind the values: (let ((a x) (a z)) ..), (let ((a x) (b y) (b y) (a x)) ..)
values_before_names : read_let names
    (forms (group (binding (codes "a") (named (codes "x")) ∷ binding (codes "a") (named (codes "z")) ∷ []) ∷ named
    (codes "a") ∷ [])) ≡ Err (unknown_symbol (codes "z"))
values_before_names = refl

first_name_again : read_let names
    (forms (group (binding (codes "a") (named (codes "x")) ∷ binding (codes "b") (named (codes "y")) ∷ binding
    (codes "b")
    (named (codes "y")) ∷ binding (codes "a") (named (codes "x")) ∷ []) ∷ named (codes "a") ∷ []))
    ≡ Err (already_bound (codes "b"))
first_name_again = refl

-- Definitions.

-- ((w String))
abbrev w_string : List Parameter
w_string = (codes "w", named (codes "String")) ∷ []

abbrev bool : Form
bool = named (codes "Bool")

-- (define-fun ok ((w String)) Bool (str.in_re w R))
abbrev defines_ok : Effect
defines_ok = command.define_function (codes "ok") w_string bool (member (named (codes "w")))

-- the body has the parameter's place, and an application has the argument there
a_definition_applied :
    live (after (defines_ok ∷ command.assert (group (named (codes "ok") ∷ named (codes "x") ∷ [])) ∷ []) some_constants)
    ≡ asserted (member_term (constant 1 text)) ∷ []
a_definition_applied = refl

-- an argument that has the name of a parameter, or of a constant of the body, stays what it is
no_capture :
    live (after (command.declare_constant (codes "w") (named (codes "String")) ∷ defines_ok ∷ command.assert
    (group (named (codes "ok") ∷ named (codes "w") ∷ [])) ∷ []) some_constants)
    ≡ asserted (member_term (constant 3 text)) ∷ []
no_capture = refl

counts_and_sorts :
    said_of (defines_ok ∷ command.assert (named (codes "ok")) ∷ command.assert
    (group (named (codes "ok") ∷ named (codes "x") ∷ named (codes "x") ∷ [])) ∷ command.assert
    (group (named (codes "ok") ∷ named (codes "p") ∷ [])) ∷ command.get_value (named (codes "ok") ∷ []) ∷
    []) some_constants
    ≡ codes "success\n(error \"wrong number of arguments\")\n(error \"wrong number of arguments\")\n"
    ++ codes "(error \"wrong sort\")\n(error \"models not enabled\")\n"
counts_and_sorts = refl

-- a definition without parameters is a name
without_parameters :
    live (after (command.define_function (codes "f") [] bool (member (named (codes "x"))) ∷ command.assert (named
    (codes "f")) ∷
    []) some_constants) ≡ asserted (member_term (constant 1 text)) ∷ []
without_parameters = refl

-- errors: a name that is taken, a parameter twice, a body of another sort, unknown names in it; f is none of its own
abbrev define : List ℕ → List Parameter → Form → Form → List Effect
define name parameters sort body = command.define_function name parameters sort body ∷ []

taken : said_of (define (codes "x") w_string bool (named (codes "z"))) some_constants
    ≡ codes "(error \"already declared x\")\n"
taken = refl

-- what stands earlier in the order of the errors comes first, though it is read later
a_malformed_body : said_of (define (codes "x") w_string bool (group [])) some_constants
    ≡ codes "(error \"malformed command\")\n"
a_malformed_body = refl

twice : said_of (define (codes "f") (w_string ++ w_string) bool (named (codes "z"))) some_constants
    ≡ codes "(error \"already declared w\")\n"
twice = refl

another_sort : said_of (define (codes "f") w_string (named (codes "String")) (member (named
    (codes "w")))) some_constants
    ≡ codes "(error \"wrong sort\")\n"
another_sort = refl

not_recursive : said_of (define (codes "f") w_string bool (group (named (codes "f") ∷ named (codes "w") ∷
    []))) some_constants
    ≡ codes "(error \"unknown symbol f\")\n"
not_recursive = refl

-- where a sort is left out the body is not read, but the names are looked at
a_sort_left_out : said_of (define (codes "f") w_string (named (codes "Real")) (named (codes "z"))) some_constants
    ≡ codes "unsupported\n"
a_sort_left_out = refl

a_sort_left_out_of_a_taken_name : said_of (define (codes "x") w_string (named (codes "Real")) (named
    (codes "z"))) some_constants
    ≡ codes "(error \"already declared x\")\n"
a_sort_left_out_of_a_taken_name = refl

-- a body that is left out marks the name, and what uses it leaves a mark
a_body_left_out :
    live (after (command.define_function (codes "f") w_string bool (group (named (codes "str.replace") ∷ named
    (codes "w") ∷ [])) ∷
    command.assert (group (named (codes "f") ∷ named (codes "x") ∷ [])) ∷ []) some_constants) ≡ a_mark ∷ []
a_body_left_out = refl

-- definitions of regular expressions: (define-fun r () RegLan (re.range "a" "b"))
of_regular_expressions :
    live (after (command.define_function (codes "r") [] (named (codes "RegLan")) a_range ∷ command.assert
    (group (named (codes "str.in_re") ∷ named (codes "x") ∷ named (codes "r") ∷ [])) ∷ []) some_constants)
    ≡ asserted (member_term (constant 1 text)) ∷ []
of_regular_expressions = refl

-- a definition goes with its level
goes_with_its_level : said_of (command.push 1 ∷ defines_ok ∷ command.pop 1 ∷ command.assert (named (codes "ok")) ∷
    []) some_constants
    ≡ codes "success\nsuccess\nsuccess\n(error \"unknown symbol ok\")\n"
goes_with_its_level = refl
