-- Computed examples of commands step by step: options, levels, assumptions.
use Rattle.std.specs.Prelude.{◌≡◌, ℕ, negsuc, true, false, List, [], ◌∷◌, ◌++◌, length, codes, refl}
use Rattle.std.specs.Fmt.{digits}
use Rattle.sb_reader.specs.declared.feed.Refusal.TheVariants.{StrayClose, BadToken, TooDeep, BareToken}
use Rattle.sb_reader.specs.Forms.{Form, Symbol, QuotedSymbol, Numeral, Words}
use Rattle.sb_meaning.specs.Terms.{Sort, text, boolean, integer}
use Rattle.sb_meaning.specs.Values.{Text, Int, Truth}
use Rattle.sb_script.specs.Names.{Name}
use Rattle.sb_script.specs.Faults.{Fault, unknown_symbol, wrong_sort as of_wrong_sort, wrong_count, bad_index, unsupported, numeral_too_large, bad_literal, malformed, already_bound}
use Rattle.sb_script.specs.State.{State, start, declared, marked, live, constants_of, satisfied, refuted, undecided}
use Rattle.sb_script.specs.Steps.{Step, answers, leaves, checks, exits, above, all, line, succeeds, is_unsupported, refusal_text, refused_term}
use Rattle.sb_script.specs.Options as option
use Rattle.sb_script.specs.Options.{settings, set_by, option_texts, get_by}
use Rattle.sb_script.specs.Replies as command
use Rattle.sb_script.specs.Replies.{Effect}
use Rattle.sb_script.specs.ReadingExamples.{group, range}

-- the text and the state after commands without a check
abbrev pub done : List Effect → State → List ℕ × State
done [] s = ([], s)
done (c ∷ cs) s = elim (c s) [
  | answers bytes new ↦ let rest = done cs new in (bytes ++ rest.0, rest.1)
  | leaves what bytes new ↦ let rest = done cs new in (bytes ++ rest.0, rest.1)
  | checks given ↦ ([], s)
  | exits bytes ↦ (bytes, s)
]

abbrev pub said_of : List Effect → State → List ℕ
said_of cs s = (done cs s).0

abbrev pub after : List Effect → State → State
after cs s = (done cs s).1

abbrev pub success : List ℕ
success = line (codes "success")

abbrev x : Form
x = Symbol (codes "x")

-- (str.in_re x (re.range "a" "b"))
abbrev pub member : Form
member = group
    (Symbol (codes "str.in_re") ∷ x ∷ range (Words (codes "a")) (Words (codes "b")) ∷ [])

-- with constants of these names and sorts
abbrev pub with_constants : List (Name × Sort) → State → State
with_constants [] s = s
with_constants (c ∷ cs) s = with_constants cs (declared c.0 c.1 s)

-- a Bool constant p of serial 0, a String constant x of serial 1, an Int constant n of serial 2, and a marked name m
abbrev pub some_constants : State
some_constants =
    marked (codes "m") (with_constants ((codes "p", boolean) ∷ (codes "x", text) ∷ (codes "n", integer) ∷ []) start)

-- Errors of entries that are no form.
no_forms : refusal_text StrayClose ++ (refusal_text BadToken ++ (refusal_text TooDeep ++ refusal_text BareToken))
    ≡ codes "unexpected )bad tokennesting deeper than 512malformed command"
no_forms = refl

-- Faults of terms, as errors.

abbrev told : Step → List ℕ
told (answers bytes new) = bytes
told (leaves what bytes new) = bytes
told (checks given) = []
told (exits bytes) = bytes

abbrev refused : List Fault → List ℕ
refused [] = []
refused (f ∷ fs) = told (refused_term f start) ++ refused fs

faults_of_terms : refused
    (malformed ∷ bad_literal ∷ numeral_too_large ∷ already_bound (codes "a\"b") ∷ unknown_symbol (codes "let") ∷
    of_wrong_sort ∷ wrong_count ∷ bad_index ∷ unsupported ∷ [])
    ≡ codes "(error \"malformed command\")\n(error \"bad token\")\n(error \"numeral too large\")\n"
    ++ (codes "(error \"already declared |a\"\"b|\")\n(error \"unknown symbol |let|\")\n(error \"wrong sort\")\n"
    ++ codes "(error \"wrong number of arguments\")\n(error \"bad index\")\nunsupported\n")
faults_of_terms = refl

-- Options.

abbrev set : List ℕ → Form → State → Step
set key value s = set_by settings key value s

-- of all options, of those too that can't be set yet
abbrev values_at_start : List Name → List ℕ
values_at_start [] = []
values_at_start (key ∷ keys) = told (get_by option_texts key start) ++ values_at_start keys

values_of_options :
    values_at_start (codes ":print-success" ∷ codes ":produce-models" ∷ codes ":produce-unsat-assumptions" ∷ codes
    ":global-declarations" ∷ codes ":reproducible-resource-limit" ∷ codes ":verbosity" ∷ [])
    ≡ codes "true\nfalse\nfalse\nfalse\n0\nunsupported\n"
unfolding digits
values_of_options = refl

-- what is asked for is the value in force; an option that can't be set has none
values_in_force :
    said_of (option.get_option (codes ":produce-unsat-assumptions") ∷ option.set_option
    (codes ":produce-unsat-assumptions") (Symbol (codes "true")) ∷ option.get_option
    (codes ":produce-unsat-assumptions") ∷ option.get_option (codes ":global-declarations") ∷ option.set_option
    (codes ":print-success") (Symbol (codes "false")) ∷ option.get_option (codes ":print-success") ∷ option.get_option
    (codes ":reproducible-resource-limit") ∷ []) start ≡ codes "false\nsuccess\ntrue\nfalse\nfalse\nunsupported\n"
values_in_force = refl

a_limit : told (set (codes ":reproducible-resource-limit") (Numeral (codes "18446744073709551615")) start) ≡ success
a_limit = refl

a_limit_too_large : told (set (codes ":reproducible-resource-limit") (Numeral (codes "18446744073709551616")) start)
    ≡ codes "(error \"numeral too large\")\n"
a_limit_too_large = refl

a_limit_that_is_none : told (set (codes ":reproducible-resource-limit") (Symbol (codes "true")) start)
    ≡ codes "(error \"bad option value\")\n"
a_limit_that_is_none = refl

a_truth_that_is_none : told (set (codes ":produce-unsat-assumptions") (Numeral (codes "1")) start)
    ≡ codes "(error \"bad option value\")\n"
a_truth_that_is_none = refl

global_declarations : told (set (codes ":global-declarations") (Symbol (codes "true")) start) ≡ success
global_declarations = refl

no_global_declarations : told (set (codes ":global-declarations") (Symbol (codes "false")) start) ≡ success
no_global_declarations = refl

global_or_not : told (set (codes ":global-declarations") (Symbol (codes "no")) start)
    ≡ codes "(error \"bad option value\")\n"
global_or_not = refl

-- it is too late behind a logic, a declaration, a marked name or a mark, also with a bad value
too_late : told (set (codes ":global-declarations") (Symbol (codes "no")) some_constants)
    ≡ codes "(error \"option set too late\")\n"
too_late = refl

too_late_behind_a_logic :
    told (set (codes ":global-declarations") (Symbol (codes "false")) (after (option.set_logic (codes "QF_S") ∷
    []) start))
    ≡ codes "(error \"option set too late\")\n"
too_late_behind_a_logic = refl

too_late_behind_a_mark :
    told (set (codes ":global-declarations") (Symbol (codes "false"))
    (after (command.assert (group (Symbol (codes "str.replace") ∷ x ∷ [])) ∷ []) start))
    ≡ codes "(error \"option set too late\")\n"
too_late_behind_a_mark = refl

-- an error is no beginning, and another logic is none
not_too_late :
    told (set (codes ":global-declarations") (Symbol (codes "false"))
    (after (command.assert (Symbol (codes "y")) ∷ option.set_logic (codes "QF_BV") ∷ []) start)) ≡ success
not_too_late = refl

-- reset begins again
in_time_again :
    told (set (codes ":global-declarations") (Symbol (codes "false")) (after (command.reset ∷ []) some_constants))
    ≡ success
in_time_again = refl

-- Information.
information :
    said_of (option.get_info (codes ":name") ∷ option.get_info (codes ":version") ∷ option.get_info
    (codes ":authors") ∷ option.get_info (codes ":error-behavior") ∷ option.get_info (codes ":reason-unknown") ∷
    option.get_info (codes ":all-statistics") ∷ succeeds ∷ []) start
    ≡ codes "(:name \"strsolve\")\n(:version \"1\")\n(:authors \"the strsolve authors\")\n"
    ++ (codes "(:error-behavior continued-execution)\n(error \"no unknown answer\")\nunsupported\nsuccess\n")
information = refl

reason_unknown : said_of (option.get_info (codes ":reason-unknown") ∷ []) (record start { mode = undecided })
    ≡ codes "(:reason-unknown resource-limit)\n"
reason_unknown = refl

echoed : said_of (command.echo (codes "a\"\"b") ∷ []) start ≡ codes "\"a\"\"b\"\n"
echoed = refl

-- Levels.

-- what is declared and asserted above goes, and serials go on
levels :
    (let s = after (command.push 1 ∷ command.declare_constant (codes "y") (Symbol (codes "String")) ∷ command.pop 1 ∷
    command.declare_constant (codes "y") (Symbol (codes "String")) ∷ []) (with_constants ((codes "x", text) ∷
    []) start) in
    constants_of s)
    ≡ record { name = codes "x"; serial = 0; sort = text } ∷ record { name = codes "y"; serial = 2; sort = text } ∷ []
levels = refl

assertions_go :
    length (live (after (command.assert member ∷ command.push 2 ∷ command.assert member ∷ command.pop 1 ∷
    []) some_constants))
    ≡ 1
assertions_go = refl

assertions_below_stay :
    length (live (after (command.push 2 ∷ command.assert member ∷ command.push 1 ∷ command.pop 1 ∷
    []) some_constants)) ≡ 1
assertions_below_stay = refl

what_a_pop_leaves : command.pop 2 (after (command.push 5 ∷ []) start)
    ≡ leaves (above 3) success (after (command.push 3 ∷ []) start)
what_a_pop_leaves = refl

no_such_level : said_of (command.push 1 ∷ command.pop 2 ∷ command.pop 1 ∷ command.pop 0 ∷ []) start
    ≡ codes "success\n(error \"no such level\")\nsuccess\nsuccess\n"
no_such_level = refl

-- numbers of any length
a_wide_pop : said_of (command.pop 10000000000000000000000000000000000000000 ∷ []) start
    ≡ codes "(error \"no such level\")\n"
a_wide_pop = refl

a_wide_push : said_of (command.push 10000000000000000000000000000000000000000 ∷ []) start
    ≡ codes "(error \"numeral too large\")\n"
a_wide_push = refl

-- Going back to the start.

resets_assertions : command.reset_assertions (after (command.push 3 ∷ []) some_constants)
    ≡ leaves all success (record start { begun = true; sorts = boolean ∷ text ∷ integer ∷ [] })
resets_assertions = refl

-- options too, so that success is told again
resets : command.reset
    (record (after (command.push 3 ∷ []) some_constants) {
      options = record start.options { print_success = false; produce_models = true };
    }) ≡ leaves all success (record start { sorts = boolean ∷ text ∷ integer ∷ [] })
resets = refl

-- Assumptions.

abbrev not_ : Form → Form
not_ form = group (Symbol (codes "not") ∷ form ∷ [])

abbrev p : Form
p = Symbol (codes "p")

assumptions : command.check_sat_assuming (p ∷ not_ (QuotedSymbol (codes "p")) ∷ p ∷ []) some_constants
    ≡ checks ((0, true) ∷ (0, false) ∷ (0, true) ∷ [])
assumptions = refl

no_assumptions : command.check_sat_assuming [] some_constants ≡ checks []
no_assumptions = refl

not_a_literal :
    said_of (command.check_sat_assuming (Symbol (codes "m") ∷ []) ∷ command.check_sat_assuming
    (Symbol (codes "true") ∷ []) ∷ command.check_sat_assuming (not_ (not_ p) ∷ []) ∷ command.check_sat_assuming
    (Numeral (codes "1") ∷ []) ∷ []) some_constants
    ≡ codes "(error \"not a literal\")\n(error \"not a literal\")\n"
    ++ codes "(error \"not a literal\")\n(error \"not a literal\")\n"
not_a_literal = refl

-- of several errors the order of the texts decides, and of equal ones the first in reading order
first_error : said_of (command.check_sat_assuming (Numeral (codes "1") ∷ x ∷ Symbol (codes "z") ∷ Symbol (codes "y") ∷
    []) ∷ [])
    some_constants ≡ codes "(error \"unknown symbol z\")\n"
first_error = refl

wrong_sort : said_of (command.check_sat_assuming (Symbol (codes "m") ∷ not_ x ∷ []) ∷ []) some_constants
    ≡ codes "(error \"wrong sort\")\n"
wrong_sort = refl

abbrev with_assumptions : State → State
with_assumptions s = record s { options = record s.options { produce_unsat_assumptions = true } }

not_enabled : said_of (command.get_unsat_assumptions ∷ []) start ≡ codes "(error \"assumptions not enabled\")\n"
not_enabled = refl

no_unsat : said_of (command.get_unsat_assumptions ∷ []) (with_assumptions start) ≡ codes "(error \"no unsat answer\")\n"
no_unsat = refl

unsat_assumptions : said_of (command.get_unsat_assumptions ∷ [])
    (with_assumptions (record some_constants { mode = refuted ((0, true) ∷ (0, false) ∷ []) })) ≡ codes "(p (not p))\n"
unsat_assumptions = refl

-- a push ends what the check found
ends_the_answer : said_of (command.push 1 ∷ command.get_unsat_assumptions ∷ [])
    (with_assumptions (record some_constants { mode = refuted [] })) ≡ codes "success\n(error \"no unsat answer\")\n"
ends_the_answer = refl

-- Values of all sorts.

abbrev with_models : State → State
with_models s = record s { options = record s.options { produce_models = true } }

a_model : said_of (command.get_model ∷ command.get_value (Symbol (codes "n") ∷ p ∷ []) ∷ [])
    (with_models (record some_constants {
      mode = satisfied ((0, Truth true) ∷ (1, Text (codes "a")) ∷ (2, Int (negsuc 4)) ∷ []);
    }))
    ≡ codes "((define-fun p () Bool true) (define-fun x () String \"a\") (define-fun n () Int (- 5)))\n"
    ++ codes "((n (- 5)) (p true))\n"
unfolding digits
a_model = refl

-- of values: a marked name and a symbol are no constants, an unknown name comes before the option
of_values :
    said_of (command.get_value (Symbol (codes "m") ∷ []) ∷ command.get_value (Symbol (codes "true") ∷ []) ∷
    command.get_value (Words (codes "a") ∷ []) ∷ command.get_value (Symbol (codes "m") ∷ Symbol (codes "z") ∷ []) ∷ [])
    (with_models (record some_constants { mode = satisfied [] }))
    ≡ codes "unsupported\nunsupported\nunsupported\n(error \"unknown symbol z\")\n"
of_values = refl

no_model : said_of (command.get_model ∷ []) (with_models start) ≡ codes "(error \"no model\")\n"
no_model = refl

-- Logics and other commands.
logics :
    said_of (option.set_logic (codes "QF_BV") ∷ option.set_logic (codes "QF_SLIA") ∷ option.set_logic
    (codes "QF_SLIA") ∷
    is_unsupported ∷ command.exit ∷ []) start
    ≡ codes "unsupported\nsuccess\n(error \"logic already set\")\nunsupported\nsuccess\n"
logics = refl

-- a reserved word in a sort's place is an unknown sort: the name is marked
a_reserved_sort : said_of (command.declare_constant (codes "c") (Symbol (codes "let")) ∷ command.assert (Symbol
    (codes "c")) ∷
    command.declare_constant (codes "c") (Symbol (codes "String")) ∷ []) start
    ≡ codes "unsupported\nunsupported\n(error \"already declared c\")\n"
a_reserved_sort = refl

-- names of the theories, of what is left out of them and of old can't be declared; char can
names_of_theories :
    said_of (command.declare_constant (codes "str.in.re") (Symbol (codes "String")) ∷ command.declare_constant
    (codes "str.replace") (Symbol (codes "String")) ∷ command.declare_constant (codes "re.opt") (Symbol
    (codes "String")) ∷
    command.declare_constant (codes "char") (Symbol (codes "String")) ∷ []) start
    ≡ codes "(error \"already declared str.in.re\")\n(error \"already declared str.replace\")\n"
    ++ codes "(error \"already declared re.opt\")\nsuccess\n"
names_of_theories = refl
