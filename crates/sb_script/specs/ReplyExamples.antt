-- Computed examples of replies: what each command of small scripts is answered.
use Rattle.std.specs.Prelude.{◌≡◌, ℕ, true, false, List, [], ◌∷◌, ◌++◌, codes, refl}
use Rattle.sb_reader.specs.declared.feed.Refusal.TheVariants.{StrayClose}
use Rattle.sb_reader.specs.Forms.{Form, Symbol, QuotedSymbol, Keyword, Words}
use Rattle.sb_reader.specs.Entries.{Entry, Command, Refused}
use Rattle.sb_meaning.specs.Values.{Text}
use Rattle.sb_script.specs.State.{State, start, a_mark}
use Rattle.sb_script.specs.State as state
use Rattle.sb_script.specs.Steps.{answers, leaves, checks, exits, line, unsupported_line}
use Rattle.sb_script.specs.Replies.{step_of}
use Rattle.sb_script.specs.Verdicts.{settled, is_sat, each_once, are_some_of}
use Rattle.sb_script.specs.ReadingExamples.{group, range}
use Rattle.sb_script.specs.Fragment.{in_fragment}
use Rattle.sb_lang.specs.Membership.{in_re}
use Rattle.sb_lang.specs.Languages.{cut, power, some_up_to, iterate}

abbrev pub command : List Form → Entry
command fs = Command (group fs)

-- the state and the text after entries that are answered without a check
abbrev pub run : List Entry → State → List ℕ × State
run [] s = ([], s)
run (entry ∷ entries) s = elim (step_of entry s) [
  | answers text new ↦ let rest = run entries new in (text ++ rest.0, rest.1)
  | leaves what text new ↦ let rest = run entries new in (text ++ rest.0, rest.1)
  | checks given ↦ ([], s)
  | exits text ↦ (text, s)
]

abbrev pub option : List ℕ → List ℕ → Entry
option key value = command (Symbol (codes "set-option") ∷ Keyword key ∷ Symbol value ∷ [])

abbrev pub declare : List ℕ → List ℕ → Entry
declare name sort = command (Symbol (codes "declare-const") ∷ Symbol name ∷ Symbol sort ∷ [])

abbrev get_model : Entry
get_model = command (Symbol (codes "get-model") ∷ [])

-- (set-logic QF_S)(check-sat)(exit), up to the check
sets_the_logic : (run
    (command (Symbol (codes "set-logic") ∷ Symbol (codes "QF_S") ∷ []) ∷ command (Symbol (codes "check-sat") ∷ []) ∷ [])
    start).0 ≡ line (codes "success")
sets_the_logic = refl

-- the logic is set once
not_twice : (run (command (Symbol (codes "set-logic") ∷ Symbol (codes "ALL") ∷ []) ∷ command
    (Symbol (codes "set-logic") ∷ Symbol (codes "QF_BV") ∷ []) ∷ []) start).0 ≡ line (codes "success")
    ++ line (codes "(error \"logic already set\")")
not_twice = refl

-- the reply to :print-success follows the new value
silent : (run (option (codes ":print-success") (codes "false") ∷ option (codes ":produce-models") (codes "true") ∷ [])
    start).0 ≡ []
silent = refl

loud_again : (run (option (codes ":print-success") (codes "false") ∷ option (codes ":print-success") (codes "true") ∷
    []) start).0 ≡ line (codes "success")
loud_again = refl

bad_value : (run (option (codes ":print-success") (codes "no") ∷ []) start).0
    ≡ line (codes "(error \"bad option value\")")
bad_value = refl

-- (assert y)(declare-const x Int)(declare-const x Int)(get-model), and a parenthesis too many
errors_in_order :
    (run (command (Symbol (codes "assert") ∷ Symbol (codes "y") ∷ []) ∷ declare (codes "x") (codes "Int") ∷ declare
    (codes "x") (codes "Int") ∷ get_model ∷ Refused StrayClose ∷ []) start).0
    ≡ line (codes "(error \"unknown symbol y\")")
    ++ (unsupported_line
    ++ (line (codes "(error \"already declared x\")")
    ++ (line (codes "(error \"models not enabled\")") ++ line (codes "(error \"unexpected )\")"))))
errors_in_order = refl

-- an assertion that is left out leaves a mark
leaves_a_mark : state.live
    (run (command (Symbol (codes "assert") ∷ group (Symbol (codes "str.replace") ∷ Symbol (codes "p") ∷ []) ∷ []) ∷ []) start).1
    ≡ a_mark ∷ []
leaves_a_mark = refl

-- a reserved word as a name
reserved_name : (run (declare (codes "let") (codes "String") ∷ []) start).0
    ≡ line (codes "(error \"malformed command\")")
reserved_name = refl

-- (assert (str.in_re x (re.+ (re.range "a" "b")))), of which "a" is a model, and "" and "c" are none
abbrev asked : State
asked = (run (declare (codes "x") (codes "String") ∷ command
    (Symbol (codes "assert") ∷ group
    (Symbol (codes "str.in_re") ∷ Symbol (codes "x") ∷ group
    (Symbol (codes "re.+") ∷ range (Words (codes "a")) (Words (codes "b")) ∷ []) ∷ []) ∷ []) ∷ []) start).1

is_decided : in_fragment asked ≡ true
is_decided = refl

has_a_model : state.is_model asked [] ((0, Text (codes "a")) ∷ []) ≡ true
unfolding in_re cut power some_up_to iterate
has_a_model = refl

empty_word_is_none : state.is_model asked [] ((0, Text []) ∷ []) ≡ false
unfolding in_re cut power some_up_to iterate
empty_word_is_none = refl

no_value_is_none : state.is_model asked [] [] ≡ false
no_value_is_none = refl

-- the state after one more assertion
abbrev and_asserted : Form → State
and_asserted form = (run (command (Symbol (codes "assert") ∷ form ∷ []) ∷ []) asked).1

-- with (not (= x "a")), or with true
structure_is_decided : in_fragment
    (and_asserted (group (Symbol (codes "not") ∷ group
    (Symbol (codes "=") ∷ Symbol (codes "x") ∷ Words (codes "a") ∷ []) ∷ []))) ≡ true
structure_is_decided = refl

a_truth_value_is_decided : in_fragment (and_asserted (Symbol (codes "true"))) ≡ true
a_truth_value_is_decided = refl

-- with (= (str.++ "a" "b") x), and with (= (str.++ "a" x) "b")
a_joined_word_is_decided : in_fragment
    (and_asserted (group (Symbol (codes "=") ∷ group (Symbol (codes "str.++") ∷ Words (codes "a") ∷ Words (codes "b") ∷
    []) ∷ Symbol (codes "x") ∷ []))) ≡ true
a_joined_word_is_decided = refl

joined_constants_are_decided : in_fragment
    (and_asserted (group (Symbol (codes "=") ∷ group (Symbol (codes "str.++") ∷ Words (codes "a") ∷ Symbol (codes "x") ∷
    []) ∷ Words (codes "b") ∷ []))) ≡ true
joined_constants_are_decided = refl

-- (= x x) leaves the fragment, and so does a mark
is_not_decided : in_fragment
    (and_asserted (group (Symbol (codes "=") ∷ Symbol (codes "x") ∷ Symbol (codes "x") ∷ []))) ≡ false
is_not_decided = refl

a_mark_is_not_decided : in_fragment
    (and_asserted (group (Symbol (codes "str.replace") ∷ Symbol (codes "x") ∷ []))) ≡ false
a_mark_is_not_decided = refl

-- a constant that is declared as a function, twice; a function with arguments, whose name is then taken
abbrev declare_function : List ℕ → List Form → Entry
declare_function name sorts = command
    (Symbol (codes "declare-fun") ∷ Symbol name ∷ group sorts ∷ Symbol (codes "String") ∷ [])

functions :
    (run (declare_function (codes "x") [] ∷ declare_function (codes "x") [] ∷ declare_function (codes "f")
    (Symbol (codes "Int") ∷ []) ∷ declare_function (codes "f") [] ∷ []) start).0
    ≡ line (codes "success")
    ++ (line (codes "(error \"already declared x\")")
    ++ (unsupported_line ++ line (codes "(error \"already declared f\")")))
functions = refl

is_a_constant : (run (declare_function (codes "x") [] ∷ []) start).1
    ≡ (run (declare (codes "x") (codes "String") ∷ []) start).1
is_a_constant = refl

-- what is asked of the solver, and what is told to it
asks_the_solver :
    (run (command (Symbol (codes "echo") ∷ Words (codes "a\"\"b") ∷ []) ∷ command (Symbol (codes "set-info") ∷ Keyword
    (codes ":status") ∷ Symbol (codes "sat") ∷ []) ∷ command (Symbol (codes "get-info") ∷ Keyword (codes ":version") ∷
    []) ∷ command (Symbol (codes "get-option") ∷ Keyword (codes ":print-success") ∷ []) ∷ command
    (Symbol (codes "get-option") ∷ Keyword (codes ":reproducible-resource-limit") ∷ []) ∷ []) start).0
    ≡ line (codes "\"a\"\"b\"")
    ++ (line (codes "success")
    ++ (line (codes "(:version \"1\")") ++ (line (codes "true") ++ unsupported_line)))
asks_the_solver = refl

-- whether declarations are global is said anew until a declaration makes it too late
globals :
    (run (option (codes ":global-declarations") (codes "true") ∷ option (codes ":global-declarations") (codes "false") ∷
    declare (codes "x") (codes "String") ∷ option (codes ":global-declarations") (codes "false") ∷ []) start).0
    ≡ line (codes "success") ++ (line (codes "success")
    ++ (line (codes "success") ++ line (codes "(error \"option set too late\")")))
globals = refl

-- x is declared, and the check found "a"
abbrev after_check : State
after_check = settled (is_sat ((0, Text (codes "a")) ∷ []))
    (run (option (codes ":produce-models") (codes "true") ∷ declare (codes "x") (codes "String") ∷ []) start).1

a_model : (run (get_model ∷ []) after_check).0 ≡ line (codes "((define-fun x () String \"a\"))")
a_model = refl

a_value : (run (command (Symbol (codes "get-value") ∷ group (QuotedSymbol (codes "x") ∷ []) ∷ []) ∷ []) after_check).0
    ≡ line (codes "((x \"a\"))")
a_value = refl

-- of assumptions each is named once, at its first place
named_once : each_once ((1, true) ∷ (2, false) ∷ (1, true) ∷ (1, false) ∷ (2, false) ∷ [])
    ≡ (1, true) ∷ (2, false) ∷ (1, false) ∷ []
named_once = refl

some_of_them : are_some_of ((1, true) ∷ (2, false) ∷ []) ((1, true) ∷ (1, true) ∷ (2, false) ∷ []) ≡ true
some_of_them = refl

one_of_them_twice : are_some_of ((1, true) ∷ (1, true) ∷ []) ((1, true) ∷ (1, true) ∷ (2, false) ∷ []) ≡ false
one_of_them_twice = refl

-- a declaration ends it
no_model : (run (declare (codes "y") (codes "String") ∷ get_model ∷ []) after_check).0 ≡ line (codes "success")
    ++ line (codes "(error \"no model\")")
no_model = refl
