-- Computed examples of scripts with `let` and definitions: what is asserted when they are unfolded, and what is refused.
use Rattle.std.specs.Prelude.{◌≡◌, ℕ, true, false, List, [], ◌∷◌, ◌++◌, codes, refl}
use Rattle.sb_reader.specs.Forms.{Form, Symbol, Numeral, Words}
use Rattle.sb_reader.specs.Entries.{Entry}
use Rattle.sb_meaning.specs.Terms.{Term, text, boolean, constant, word, apply, no_terms, with_term}
use Rattle.sb_meaning.specs.Terms as symbol
use Rattle.sb_meaning.specs.Values.{Text}
use Rattle.sb_script.specs.State.{State, Assertion, start, live, asserted, a_mark}
use Rattle.sb_script.specs.State as state
use Rattle.sb_script.specs.Verdicts.{settled, is_sat}
use Rattle.sb_script.specs.Fragment.{in_fragment}
use Rattle.sb_script.specs.ReadingExamples.{group, range}
use Rattle.sb_script.specs.ReplyExamples.{command, run, option, declare}
use Rattle.sb_lang.specs.Membership.{in_re}
use Rattle.sb_lang.specs.Languages.{cut, power, some_up_to, iterate}

abbrev name : List ℕ → Form
name bytes = Symbol bytes

-- (head argument ..)
abbrev pub of : List ℕ → List Form → Form
of head arguments = group (Symbol head ∷ arguments)

-- (name sort), of a parameter
abbrev pub parameter : List ℕ → List ℕ → Form
parameter bytes sort = group (Symbol bytes ∷ Symbol sort ∷ [])

-- (name value), of a let
abbrev binding : List ℕ → Form → Form
binding bytes value = group (Symbol bytes ∷ value ∷ [])

-- (let (binding ..) body)
abbrev let_ : List Form → Form → Form
let_ bindings body = of (codes "let") (group bindings ∷ body ∷ [])

abbrev pub assert_ : Form → Entry
assert_ form = command (Symbol (codes "assert") ∷ form ∷ [])

abbrev pub define : List ℕ → List Form → List ℕ → Form → Entry
define bytes parameters sort body =
    command (Symbol (codes "define-fun") ∷ Symbol bytes ∷ group parameters ∷ Symbol sort ∷ body ∷ [])

abbrev x : Form
x = name (codes "x")

abbrev y : Form
y = name (codes "y")

abbrev w : Form
w = name (codes "w")

abbrev z : Form
z = name (codes "z")

-- (str.in_re form (re.range "a" "b")), and the term of it
abbrev member : Form → Form
member form = of (codes "str.in_re") (form ∷ range (Words (codes "a")) (Words (codes "b")) ∷ [])

abbrev range_term : Term
range_term = apply symbol.re_range (with_term (word (codes "a")) (with_term (word (codes "b")) no_terms))

abbrev member_term : Term → Term
member_term t = apply symbol.str_in_re (with_term t (with_term range_term no_terms))

abbrev both : Form → Form → Form
both a b = of (codes "and") (a ∷ b ∷ [])

abbrev both_terms : Term → Term → Term
both_terms a b = apply symbol.core_and (with_term a (with_term b no_terms))

-- the String constants x, of serial 0, and y, of serial 1
abbrev with_two : State
with_two = (run (declare (codes "x") (codes "String") ∷ declare (codes "y") (codes "String") ∷ []) start).1

abbrev x_term : Term
x_term = constant 0 text

abbrev y_term : Term
y_term = constant 1 text

abbrev asserted_by : List Entry → List Assertion
asserted_by entries = live (run entries with_two).1

abbrev said_by : List Entry → List ℕ
said_by entries = (run entries with_two).0

-- (define-fun ok ((w String)) Bool (str.in_re w (re.range "a" "b")))
abbrev w_string : List Form
w_string = parameter (codes "w") (codes "String") ∷ []

abbrev defines_ok : Entry
defines_ok = define (codes "ok") w_string (codes "Bool") (member w)

abbrev ok : Form → Form
ok form = of (codes "ok") (form ∷ [])

-- A definition and a let in one assertion:
-- (define-fun ok ((w String)) Bool (str.in_re w (re.opt (str.to_re "z"))))
-- (assert (let ((a x)) (and (ok a) (not (= a "")))))
abbrev a_script : State
a_script = (run
    (option (codes ":produce-models") (codes "true") ∷ declare (codes "x") (codes "String") ∷ define (codes "ok") w_string
    (codes "Bool") (of (codes "str.in_re") (w ∷ of (codes "re.opt") (of (codes "str.to_re") (Words (codes "z") ∷ []) ∷
    []) ∷ [])) ∷ assert_
    (let_ (binding (codes "a") x ∷ [])
    (both (ok (name (codes "a")))
    (of (codes "not") (of (codes "=") (name (codes "a") ∷ Words [] ∷ []) ∷ [])))) ∷ []) start).1

a_script_is_decided : in_fragment a_script ≡ true
a_script_is_decided = refl

a_script_has_a_model : state.is_model a_script [] ((0, Text (codes "z")) ∷ []) ≡ true
unfolding in_re cut power some_up_to iterate
a_script_has_a_model = refl

empty_word_is_none : state.is_model a_script [] ((0, Text []) ∷ []) ≡ false
unfolding in_re cut power some_up_to iterate
empty_word_is_none = refl

-- a definition is no constant, so it has no value and no place in a model
its_values :
    (run (command (Symbol (codes "get-value") ∷ group (x ∷ []) ∷ []) ∷ command (Symbol (codes "get-value") ∷ group
    (name (codes "ok") ∷ []) ∷ []) ∷ command (Symbol (codes "get-model") ∷ []) ∷ [])
    (settled (is_sat ((0, Text (codes "z")) ∷ [])) a_script)).0
    ≡ codes "((x \"z\"))\nunsupported\n((define-fun x () String \"z\"))\n"
its_values = refl

-- Which name is meant.

-- a parameter hides a constant: (define-fun f ((x String)) Bool (str.in_re x R)), (f y)
a_parameter_hides :
    asserted_by (define (codes "f") (parameter (codes "x") (codes "String") ∷ []) (codes "Bool") (member x) ∷ assert_
    (of (codes "f") (y ∷ [])) ∷ []) ≡ asserted (member_term y_term) ∷ []
a_parameter_hides = refl

-- a constant that is declared behind the definition does not reach into its body
a_later_constant :
    asserted_by (defines_ok ∷ declare (codes "w") (codes "String") ∷ assert_ (both (ok w) (ok x)) ∷ [])
    ≡ asserted (both_terms (member_term (constant 2 text)) (member_term x_term)) ∷ []
a_later_constant = refl

-- a let hides a parameter: (define-fun f ((w String)) Bool (let ((w x)) (str.in_re w R))), (f y)
a_let_hides :
    asserted_by (define (codes "f") w_string (codes "Bool") (let_ (binding (codes "w") x ∷ []) (member w)) ∷ assert_
    (of (codes "f") (y ∷ [])) ∷ []) ≡ asserted (member_term x_term) ∷ []
a_let_hides = refl

-- a value in the body is read where the parameter hides: (let ((v w)) ..) is the argument
a_value_of_a_parameter :
    asserted_by (define (codes "f") w_string (codes "Bool") (let_ (binding (codes "v") w ∷ [])
    (member (name (codes "v")))) ∷ assert_ (of (codes "f") (y ∷ [])) ∷ []) ≡ asserted (member_term y_term) ∷ []
a_value_of_a_parameter = refl

-- two names change places: (let ((x y) (y x)) (and (str.in_re x R) (= y "a")))
changes_places :
    asserted_by (assert_ (let_ (binding (codes "x") y ∷ binding (codes "y") x ∷ [])
    (both (member x) (of (codes "=") (y ∷ Words (codes "a") ∷ [])))) ∷ [])
    ≡ asserted (both_terms (member_term y_term)
    (apply symbol.core_equal (with_term x_term (with_term (word (codes "a")) no_terms)))) ∷ []
changes_places = refl

-- in an inner let the values are read in the outer one:
-- (let ((a x)) (let ((a y) (b a)) (and (str.in_re a R) (str.in_re b R))))
one_in_another :
    asserted_by (assert_ (let_ (binding (codes "a") x ∷ []) (let_ (binding (codes "a") y ∷ binding (codes "b")
    (name (codes "a")) ∷ []) (both (member (name (codes "a"))) (member (name (codes "b")))))) ∷ [])
    ≡ asserted (both_terms (member_term y_term) (member_term x_term)) ∷ []
one_in_another = refl

-- behind a let its names are what they were: (and (let ((x y)) (str.in_re x R)) (str.in_re x R))
behind_a_let :
    asserted_by (assert_ (both (let_ (binding (codes "x") y ∷ []) (member x)) (member x)) ∷ [])
    ≡ asserted (both_terms (member_term y_term) (member_term x_term)) ∷ []
behind_a_let = refl

-- a regular expression that is bound: (let ((r (re.range "a" "b"))) (str.in_re x r))
a_bound_expression :
    asserted_by (assert_ (let_ (binding (codes "r") (range (Words (codes "a")) (Words (codes "b"))) ∷ [])
    (of (codes "str.in_re") (x ∷ name (codes "r") ∷ []))) ∷ []) ≡ asserted (member_term x_term) ∷ []
a_bound_expression = refl

-- Definitions over others, and under levels.

-- (define-fun g ((v String) (w String)) Bool (and (ok w) (ok v))), (g x y)
one_over_another :
    asserted_by (defines_ok ∷ define (codes "g") (parameter (codes "v") (codes "String") ∷ w_string) (codes "Bool")
    (both (ok w) (ok (name (codes "v")))) ∷ assert_ (of (codes "g") (x ∷ y ∷ [])) ∷ [])
    ≡ asserted (both_terms (member_term y_term) (member_term x_term)) ∷ []
one_over_another = refl

-- twice the one before: (define-fun s () RegLan (re.++ r r))
abbrev doubled : List ℕ → List ℕ → Entry
doubled bytes before = define bytes [] (codes "RegLan") (of (codes "re.++") (name before ∷ name before ∷ []))

abbrev twice_term : Term → Term
twice_term R = apply symbol.re_concat (with_term R (with_term R no_terms))

doubles :
    asserted_by (define (codes "r") [] (codes "RegLan") (range (Words (codes "a")) (Words (codes "b"))) ∷ doubled
    (codes "s") (codes "r") ∷ doubled (codes "t") (codes "s") ∷ assert_ (of (codes "str.in_re") (x ∷ name (codes "t") ∷
    [])) ∷ [])
    ≡ asserted (apply symbol.str_in_re (with_term x_term
    (with_term (twice_term (twice_term range_term)) no_terms))) ∷ []
doubles = refl

abbrev push_ : Entry
push_ = command (Symbol (codes "push") ∷ Numeral (codes "1") ∷ [])

abbrev pop_ : Entry
pop_ = command (Symbol (codes "pop") ∷ Numeral (codes "1") ∷ [])

-- a definition is used under a deeper level than its own, and what was defined there is gone behind it
under_levels :
    said_by (defines_ok ∷ push_ ∷ define (codes "g") [] (codes "Bool") (ok x) ∷ assert_ (name (codes "g")) ∷ pop_ ∷
    assert_ (ok x) ∷ assert_ (name (codes "g")) ∷ define (codes "g") [] (codes "Bool") (ok y) ∷ [])
    ≡ codes "success\nsuccess\nsuccess\nsuccess\nsuccess\nsuccess\n"
    ++ codes "(error \"unknown symbol g\")\nsuccess\n"
under_levels = refl

-- What is not used does not occur, but its faults are answered.

-- (let ((a (= x y))) true), which is decided, though the equality of two constants is not
an_unused_value : in_fragment (run (assert_
    (let_ (binding (codes "a") (of (codes "=") (x ∷ y ∷ [])) ∷ []) (name (codes "true"))) ∷ []) with_two).1 ≡ true
an_unused_value = refl

an_unused_fault : said_by (assert_ (let_ (binding (codes "a") z ∷ []) (name (codes "true"))) ∷ [])
    ≡ codes "(error \"unknown symbol z\")\n"
an_unused_fault = refl

-- (define-fun f ((w String)) Bool true), (f x)
an_unused_parameter :
    asserted_by (define (codes "f") w_string (codes "Bool") (name (codes "true")) ∷ assert_ (of (codes "f") (x ∷ [])) ∷
    []) ≡ asserted (apply symbol.core_true no_terms) ∷ []
an_unused_parameter = refl

-- Faults.

-- in a let: values from left to right, then names, then the body
abbrev faulty : List Entry
faulty =
    assert_ (let_ (binding (codes "a") z ∷ binding (codes "b") (name (codes "q")) ∷ []) (name (codes "r")))
    ∷ assert_ (let_ (binding (codes "a") (name (codes "q")) ∷ binding (codes "b") z ∷ []) (name (codes "r")))
    ∷ assert_ (let_ (binding (codes "a") x ∷ binding (codes "a") z ∷ []) (name (codes "r")))
    ∷ assert_ (let_ (binding (codes "a") x ∷ binding (codes "a") y ∷ []) (name (codes "r")))
    ∷ assert_ (let_ (binding (codes "a") x ∷ []) (both (name (codes "r")) z))
    ∷ assert_ (let_ (binding (codes "a") x ∷ []) (name (codes "a"))) ∷ []

faults_of_a_let : said_by faulty
    ≡ codes "(error \"unknown symbol z\")\n(error \"unknown symbol q\")\n(error \"unknown symbol z\")\n"
    ++ codes "(error \"already declared a\")\n(error \"unknown symbol r\")\n(error \"wrong sort\")\n"
faults_of_a_let = refl

-- of wrong shape: no binding, a value too many, a reserved name, two bodies, none
abbrev shapeless : List Entry
shapeless =
    assert_ (let_ [] z)
    ∷ assert_ (let_ (group (name (codes "a") ∷ x ∷ x ∷ []) ∷ []) z)
    ∷ assert_ (let_ (binding (codes "let") x ∷ []) z)
    ∷ assert_ (of (codes "let") (group (binding (codes "a") x ∷ []) ∷ z ∷ z ∷ []))
    ∷ assert_ (of (codes "let") (group (binding (codes "a") x ∷ []) ∷ [])) ∷ []

shapes_come_first : said_by shapeless
    ≡ codes "(error \"malformed command\")\n(error \"malformed command\")\n(error \"malformed command\")\n"
    ++ codes "(error \"malformed command\")\n(error \"malformed command\")\n"
shapes_come_first = refl

-- a value that is left out leaves a mark, unless a fault stands in front of it
a_value_left_out : asserted_by (assert_ (let_ (binding (codes "a") (of (codes "str.replace") (x ∷ [])) ∷ binding
    (codes "b") z ∷ []) (name (codes "r"))) ∷ []) ≡ a_mark ∷ []
a_value_left_out = refl

a_fault_in_front : said_by (assert_ (let_ (binding (codes "b") z ∷ binding (codes "a")
    (of (codes "str.replace") (x ∷ [])) ∷ []) (name (codes "r"))) ∷ []) ≡ codes "(error \"unknown symbol z\")\n"
a_fault_in_front = refl

-- in a definition: of its name, its parameters and its body the order of the texts decides, of equal texts the reading
abbrev faulty_definitions : List Entry
faulty_definitions =
    define (codes "x") (parameter (codes "w") (codes "String") ∷ w_string) (codes "Bool") z
    ∷ define (codes "f") (parameter (codes "w") (codes "String") ∷ w_string) (codes "Bool") z
    ∷ define (codes "x") w_string (codes "Bool") (let_ [] z)
    ∷ define (codes "x") w_string (codes "Bool") (let_ (binding (codes "a") x ∷ binding (codes "a") x ∷ []) z)
    ∷ define (codes "f") w_string (codes "Bool") (both z w)
    ∷ define (codes "f") w_string (codes "Bool") (both w z)
    ∷ define (codes "f") w_string (codes "Bool") (both w w)
    ∷ define (codes "f") w_string (codes "Bool") w
    ∷ define (codes "true") w_string (codes "Bool") (member w) ∷ []

faults_of_definitions : said_by faulty_definitions
    ≡ codes "(error \"already declared x\")\n(error \"already declared w\")\n(error \"malformed command\")\n"
    ++ (codes "(error \"already declared x\")\n(error \"unknown symbol z\")\n(error \"unknown symbol z\")\n"
    ++ codes "(error \"wrong sort\")\n(error \"wrong sort\")\n(error \"already declared true\")\n")
faults_of_definitions = refl

-- of wrong shape: a parameter without a sort, a reserved one, a number as a sort, no body
abbrev shapeless_definitions : List Entry
shapeless_definitions =
    define (codes "f") (w ∷ []) (codes "Bool") z
    ∷ define (codes "f") (parameter (codes "let") (codes "String") ∷ []) (codes "Bool") z
    ∷ define (codes "f") (group (w ∷ Numeral (codes "1") ∷ []) ∷ []) (codes "Bool") z
    ∷ define (codes "let") [] (codes "Bool") z
    ∷ command (Symbol (codes "define-fun") ∷ name (codes "f") ∷ group w_string ∷ name (codes "Bool") ∷ []) ∷ []

shapes_of_definitions : said_by shapeless_definitions
    ≡ codes "(error \"malformed command\")\n(error \"malformed command\")\n(error \"malformed command\")\n"
    ++ codes "(error \"malformed command\")\n(error \"malformed command\")\n"
shapes_of_definitions = refl

-- a refused definition defines nothing, and one that is left out has a marked name; integers are left out so far, of a
-- parameter and of what is made, and the body is not read then
refused_or_marked :
    said_by (define (codes "f") w_string (codes "Bool") z ∷ defines_ok ∷ define (codes "f") [] (codes "Bool") (ok x) ∷
    define (codes "g") (parameter (codes "n") (codes "Int") ∷ []) (codes "Bool") z ∷ assert_ (of (codes "g") (x ∷ [])) ∷
    define (codes "g") [] (codes "Bool") (ok x) ∷ define (codes "h") [] (codes "Int") z ∷ [])
    ≡ codes "(error \"unknown symbol z\")\nsuccess\nsuccess\nunsupported\nunsupported\n"
    ++ codes "(error \"already declared g\")\nunsupported\n"
refused_or_marked = refl

-- a definition is no literal of an assumption, and ends what a check found
no_literal :
    said_by (define (codes "g") [] (codes "Bool") (name (codes "true")) ∷ command (Symbol (codes "check-sat-assuming") ∷
    group (name (codes "g") ∷ []) ∷ []) ∷ command (Symbol (codes "check-sat-assuming") ∷ group
    (of (codes "not") (name (codes "g") ∷ []) ∷ []) ∷ []) ∷ [])
    ≡ codes "success\n(error \"not a literal\")\n(error \"not a literal\")\n"
no_literal = refl

ends_a_model : (run (define (codes "g") [] (codes "Bool") (name (codes "true")) ∷ command (Symbol (codes "get-model") ∷
    []) ∷ []) (settled (is_sat ((0, Text (codes "z")) ∷ [])) a_script)).0
    ≡ codes "success\n(error \"no model\")\n"
ends_a_model = refl
