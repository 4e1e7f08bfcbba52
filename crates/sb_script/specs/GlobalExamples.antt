-- Computed examples of declarations that are global: names stay where levels are left, assertions go.
use Rattle.std.specs.Prelude.{◌≡◌, ℕ, true, false, List, [], ◌∷◌, ◌++◌, map, codes, refl}
use Rattle.sb_reader.specs.Forms.{Form, Symbol, Keyword, Numeral, Words}
use Rattle.sb_reader.specs.Entries.{Entry}
use Rattle.sb_meaning.specs.Values.{Text}
use Rattle.sb_script.specs.State.{State, start, live, constants_of, is_model}
use Rattle.sb_script.specs.Verdicts.{settled, is_sat}
use Rattle.sb_script.specs.Fragment.{in_fragment}
use Rattle.sb_script.specs.ReadingExamples.{group}
use Rattle.sb_script.specs.ReplyExamples.{command, run, option, declare}
use Rattle.sb_script.specs.UnfoldingExamples.{of, assert_, define}

abbrev x : Form
x = Symbol (codes "x")

abbrev bare : List ℕ → Entry
bare name = command (Symbol name ∷ [])

abbrev levels : List ℕ → List ℕ → Entry
levels name count = command (Symbol name ∷ Numeral count ∷ [])

abbrev push_ : Entry
push_ = levels (codes "push") (codes "1")

abbrev pop_ : Entry
pop_ = levels (codes "pop") (codes "1")

abbrev is_global : Entry
is_global = option (codes ":global-declarations") (codes "true")

-- (define-fun f () Bool (= x "a"))
abbrev defines_f : Entry
defines_f = define (codes "f") [] (codes "Bool") (of (codes "=") (x ∷ Words (codes "a") ∷ []))

abbrev asks_for_x : Entry
asks_for_x = command (Symbol (codes "get-value") ∷ group (x ∷ []) ∷ [])

-- A constant and a definition outlive their level, and then all assertions:
-- (set-option :print-success false)(set-option :global-declarations true)(set-option :produce-models true)(push 1)
-- (declare-const x String)(define-fun f () Bool (= x "a"))(pop 1)(assert f)
abbrev before_a_check : State
before_a_check = (run
    (option (codes ":print-success") (codes "false") ∷ is_global ∷ option (codes ":produce-models") (codes "true") ∷
    push_ ∷ declare (codes "x") (codes "String") ∷ defines_f ∷ pop_ ∷ assert_ (Symbol (codes "f")) ∷ []) start).1

is_decided : in_fragment before_a_check ≡ true
is_decided = refl

has_its_model : is_model before_a_check [] ((0, Text (codes "a")) ∷ []) ≡ true
has_its_model = refl

another_is_none : is_model before_a_check [] ((0, Text []) ∷ []) ≡ false
another_is_none = refl

-- (reset-assertions)(declare-const x Int), and the value of x where nothing is asserted
abbrev behind_it : List ℕ × State
behind_it = run (asks_for_x ∷ bare (codes "reset-assertions") ∷ declare (codes "x") (codes "Int") ∷ [])
    (settled (is_sat ((0, Text (codes "a")) ∷ [])) before_a_check)

its_answers : behind_it.0 ≡ codes "((x \"a\"))\n(error \"already declared x\")\n"
its_answers = refl

nothing_is_asserted : live behind_it.1 ≡ []
nothing_is_asserted = refl

x_is_left : is_model behind_it.1 [] ((0, Text []) ∷ []) ≡ true
x_is_left = refl

x_has_a_value : (run (asks_for_x ∷ []) (settled (is_sat ((0, Text []) ∷ [])) behind_it.1)).0 ≡ codes "((x \"\"))\n"
x_has_a_value = refl

-- Of names and assertions under a level the names stay, also one that is marked, and the assertions and marks go.
abbrev under_a_level : List Entry
under_a_level =
    push_ ∷ declare (codes "x") (codes "String") ∷ defines_f ∷ define (codes "g") [] (codes "Real") x ∷ assert_
    (Symbol (codes "f"))
    ∷ assert_ (Symbol (codes "g")) ∷ pop_ ∷ []

-- declared, defined, marked: each name again
abbrev again : List Entry
again = declare (codes "x") (codes "String") ∷ defines_f ∷ declare (codes "g") (codes "String") ∷ []

stay_where_global : (run (is_global ∷ (under_a_level ++ again)) start).0
    ≡ codes "success\nsuccess\nsuccess\nsuccess\nunsupported\nsuccess\nunsupported\nsuccess\n"
    ++ codes "(error \"already declared x\")\n(error \"already declared f\")\n(error \"already declared g\")\n"
stay_where_global = refl

assertions_go : live (run (is_global ∷ under_a_level) start).1 ≡ []
assertions_go = refl

go_where_not : (run (under_a_level ++ again) start).0
    ≡ codes "success\nsuccess\nsuccess\nunsupported\nsuccess\nunsupported\nsuccess\nsuccess\nsuccess\nsuccess\n"
go_where_not = refl

-- the same of reset-assertions, without a level
abbrev cleared : List Entry
cleared = declare (codes "x") (codes "String") ∷ defines_f ∷ bare (codes "reset-assertions") ∷ again

stay_where_cleared : (run (is_global ∷ cleared) start).0
    ≡ codes "success\nsuccess\nsuccess\nsuccess\n"
    ++ codes "(error \"already declared x\")\n(error \"already declared f\")\nsuccess\n"
stay_where_cleared = refl

go_where_cleared : (run cleared start).0 ≡ codes "success\nsuccess\nsuccess\nsuccess\nsuccess\nsuccess\n"
go_where_cleared = refl

-- reset takes all, the option too; serials go on
reset_takes_all : (run (is_global ∷ (under_a_level ++ (bare (codes "reset") ∷ again))) start).0
    ≡ codes "success\nsuccess\nsuccess\nsuccess\nunsupported\nsuccess\nunsupported\nsuccess\n"
    ++ codes "success\nsuccess\nsuccess\nsuccess\n"
reset_takes_all = refl

serials_go_on : map (λ c. c.serial) (constants_of
    (run (is_global ∷ (under_a_level ++ (bare (codes "reset") ∷ again))) start).1) ≡ 1 ∷ 2 ∷ []
serials_go_on = refl

is_asked_for : (run (is_global ∷ command (Symbol (codes "get-option") ∷ Keyword (codes ":global-declarations") ∷ []) ∷
    bare (codes "reset") ∷ command (Symbol (codes "get-option") ∷ Keyword (codes ":global-declarations") ∷ []) ∷
    []) start).0 ≡ codes "success\ntrue\nsuccess\nfalse\n"
is_asked_for = refl

-- names of several levels are one list, in the order of declaration
in_order : map {B = List ℕ × ℕ} (λ c. (c.name, c.serial)) (constants_of
    (run (is_global ∷ declare (codes "a") (codes "Bool") ∷ push_ ∷ declare (codes "b") (codes "Bool") ∷ push_ ∷ declare
    (codes "c") (codes "Bool") ∷ pop_ ∷ declare (codes "d") (codes "Bool") ∷ pop_ ∷ []) start).1)
    ≡ (codes "a", 0) ∷ (codes "b", 1) ∷ (codes "c", 2) ∷ (codes "d", 3) ∷ []
in_order = refl

-- The option is set before all else, of which reset-assertions takes nothing back; what comes first is the time, then the
-- value.
abbrev too_late : List Entry
too_late =
    is_global ∷ declare (codes "x") (codes "String") ∷ bare (codes "reset-assertions") ∷ is_global ∷ option
    (codes ":global-declarations") (codes "no")
    ∷ bare (codes "reset") ∷ option (codes ":global-declarations") (codes "no") ∷ push_ ∷ is_global ∷ []

is_too_late : (run too_late start).0
    ≡ codes "success\nsuccess\nsuccess\n(error \"option set too late\")\n(error \"option set too late\")\n"
    ++ codes "success\n(error \"bad option value\")\nsuccess\nsuccess\n"
is_too_late = refl

-- a definition that is accepted, or left out, makes it too late; one that is refused does not
abbrev behind : Entry → List ℕ
behind entry = (run (entry ∷ is_global ∷ []) start).0

behind_a_definition : behind (define (codes "f") [] (codes "Bool") (Symbol (codes "true")))
    ++ (behind (define (codes "f") [] (codes "Real") x) ++ behind (define (codes "f") [] (codes "Bool") x))
    ≡ codes "success\n(error \"option set too late\")\nunsupported\n(error \"option set too late\")\n"
    ++ codes "(error \"unknown symbol x\")\nsuccess\n"
behind_a_definition = refl
