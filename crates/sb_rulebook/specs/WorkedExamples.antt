-- Computed examples of whole scripts, of those too that are not read yet: what is decided of them, which values are
-- models, and what is answered.
use Rattle.std.specs.Prelude.{◌≡◌, ℕ, pos, true, false, List, [], ◌∷◌, ◌++◌, map, codes, refl}
use Rattle.sb_reader.specs.Forms.{Form, Symbol}
use Rattle.sb_meaning.specs.Terms.{Term, boolean, integer, text, constant, word, numeral, apply, no_terms, terms_of}
use Rattle.sb_meaning.specs.Terms as symbol
use Rattle.sb_meaning.specs.Values.{Valuation, Text, Int, Truth}
use Rattle.sb_meaning.specs.Examples.{one, two}
use Rattle.sb_script.specs.Fragment.{are_in_fragment}
use Rattle.sb_script.specs.Models.{are_defaults}
use Rattle.sb_script.specs.State.{State, start, asserted, assumed, live, live_terms, constants_of, with_assertion, is_model}
use Rattle.sb_script.specs.Steps.{checks}
use Rattle.sb_script.specs.Options as option
use Rattle.sb_script.specs.Replies as command
use Rattle.sb_script.specs.Replies.{Effect}
use Rattle.sb_script.specs.Verdicts.{is_sat, is_unsat, is_unknown, is_outside, settled, are_some_of}
use Rattle.sb_script.specs.ReadingExamples.{group}
use Rattle.sb_script.specs.StepExamples.{said_of, after, with_constants}
use Rattle.sb_rulebook.specs.ProofExamples.{computing}

-- with models and unsat assumptions, and without `success`
abbrev quiet : State
quiet = record start {
  options = record start.options {
    print_success = false;
    produce_models = true;
    produce_unsat_assumptions = true;
  };
}

abbrev with_assertions : List Term → State → State
with_assertions [] s = s
with_assertions (t ∷ ts) s = with_assertions ts (with_assertion (asserted t) s)

abbrev of_word : List ℕ → Term
of_word w = one symbol.str_to_re (word w)

abbrev x : Term
x = constant 0 text

abbrev y : Term
y = constant 1 text

abbrev in_ : Term → Term → Term
in_ t R = two symbol.str_in_re t R

-- Concatenations: (str.++ x y) is ab and (str.++ y x) is ba.

abbrev crossed : State
crossed =
    with_assertions
    (in_ (two symbol.str_concat x y) (of_word (codes "ab")) ∷ in_ (two symbol.str_concat y x) (of_word (codes "ba")) ∷
    [])
    (with_constants ((codes "x", text) ∷ (codes "y", text) ∷ []) quiet)

abbrev a_and_b : Valuation
a_and_b = (0, Text (codes "a")) ∷ (1, Text (codes "b")) ∷ []

crossed_is_decided : are_in_fragment (live crossed) ≡ true
crossed_is_decided = refl

one_valuation_for_both : is_model crossed [] a_and_b ≡ true
unfolding computing
one_valuation_for_both = refl

not_the_whole_word_in_one : is_model crossed [] ((0, Text (codes "ab")) ∷ (1, Text []) ∷ []) ≡ false
unfolding computing
not_the_whole_word_in_one = refl

both_words : said_of (command.get_model ∷ []) (settled (is_sat a_and_b) crossed)
    ≡ codes "((define-fun x () String \"a\") (define-fun y () String \"b\"))\n"
both_words = refl

-- Levels: an assertion goes with its level, and a name that is declared again has the next serial and another sort.

abbrev of_int : State
of_int = with_constants ((codes "y", integer) ∷ []) (after (command.push 1 ∷ command.declare_constant (codes "y")
    (Symbol (codes "String")) ∷
    command.pop 1 ∷ []) (with_constants ((codes "x", text) ∷ []) quiet))

abbrev three_at_most_y_at_most_three : State
three_at_most_y_at_most_three =
    with_assertions (apply symbol.at_most (terms_of (numeral 3 ∷ constant 2 integer ∷ numeral 3 ∷ [])) ∷ []) of_int

its_serial : constants_of of_int
    ≡ record { name = codes "x"; serial = 0; sort = text } ∷ record { name = codes "y"; serial = 2; sort = integer } ∷
    []
its_serial = refl

bounded_both_ways : are_in_fragment (live three_at_most_y_at_most_three) ≡ true
bounded_both_ways = refl

three_is_it : is_model three_at_most_y_at_most_three [] ((0, Text []) ∷ (2, Int (pos 3)) ∷ []) ≡ true
unfolding computing
three_is_it = refl

three_is_told : said_of (command.get_value (Symbol (codes "y") ∷ []) ∷ [])
    (settled (is_sat ((0, Text []) ∷ (2, Int (pos 3)) ∷ [])) three_at_most_y_at_most_three) ≡ codes "((y 3))\n"
unfolding computing
three_is_told = refl

-- Lengths: two bounded words, y is bbb, x of a, and twice the length of x is that of y and one.

abbrev length_of : Term → Term
length_of t = one symbol.str_len t

abbrev lengths : State
lengths =
    with_assertions
    (two symbol.at_most (length_of x) (numeral 5) ∷ two symbol.at_most (length_of y) (numeral 5) ∷
    two symbol.core_equal y
    (word (codes "bbb")) ∷ in_ x (one symbol.re_plus (of_word (codes "a"))) ∷ two symbol.core_equal
    (two symbol.times (numeral 2) (length_of x)) (two symbol.plus (length_of y) (numeral 1)) ∷ [])
    (with_constants ((codes "x", text) ∷ (codes "y", text) ∷ []) quiet)

lengths_are_decided : are_in_fragment (live lengths) ≡ true
lengths_are_decided = refl

two_and_three : is_model lengths [] ((0, Text (codes "aa")) ∷ (1, Text (codes "bbb")) ∷ []) ≡ true
unfolding computing
two_and_three = refl

one_is_too_short : is_model lengths [] ((0, Text (codes "a")) ∷ (1, Text (codes "bbb")) ∷ []) ≡ false
unfolding computing
one_is_too_short = refl

-- A limit that is reached.
why_unknown : said_of (option.get_info (codes ":reason-unknown") ∷ command.push 1 ∷ option.get_info
    (codes ":reason-unknown") ∷ []) (settled is_unknown quiet)
    ≡ codes "(:reason-unknown resource-limit)\n(error \"no unknown answer\")\n"
why_unknown = refl

-- Outside: a constant twice, and an assertion that is left out until its level goes.

abbrev one_constant : State
one_constant = with_constants ((codes "x", text) ∷ []) quiet

twice : are_in_fragment (live (with_assertions (in_ (two symbol.str_concat x x) (apply symbol.re_all no_terms) ∷
    []) one_constant))
    ≡ false
twice = refl

abbrev replaced : Effect
replaced = command.assert (group (Symbol (codes "str.replace") ∷ Symbol (codes "x") ∷ []))

with_a_mark : are_in_fragment (live (after (command.push 1 ∷ replaced ∷ []) one_constant)) ≡ false
with_a_mark = refl

the_mark_has_gone : are_in_fragment (live (after (command.push 1 ∷ replaced ∷ command.pop 1 ∷ []) one_constant)) ≡ true
the_mark_has_gone = refl

a_check_that_is_not_decided : said_of (command.get_model ∷ []) (settled is_outside one_constant)
    ≡ codes "(error \"no model\")\n"
a_check_that_is_not_decided = refl

-- Assumptions: where p holds x is a, and where q holds it is b; r stands for nothing.

abbrev p : Term
p = constant 0 boolean

abbrev q : Term
q = constant 1 boolean

abbrev z : Term
z = constant 3 text

abbrev guarded : State
guarded =
    with_assertions
    (two symbol.core_implies p (in_ z (of_word (codes "a"))) ∷ two symbol.core_implies q (in_ z (of_word
    (codes "b"))) ∷ [])
    (with_constants ((codes "p", boolean) ∷ (codes "q", boolean) ∷ (codes "r", boolean) ∷ (codes "x", text) ∷ []) quiet)

abbrev named : List ℕ → Form
named name = Symbol name

asked_under_three : command.check_sat_assuming (named (codes "p") ∷ named (codes "q") ∷ named (codes "r") ∷
    []) guarded
    ≡ checks ((0, true) ∷ (1, true) ∷ (2, true) ∷ [])
asked_under_three = refl

two_of_three : are_some_of ((0, true) ∷ (1, true) ∷ []) ((0, true) ∷ (1, true) ∷ (2, true) ∷ []) ≡ true
two_of_three = refl

in_the_order_given : are_some_of ((1, true) ∷ (0, true) ∷ []) ((0, true) ∷ (1, true) ∷ (2, true) ∷ []) ≡ false
in_the_order_given = refl

each_once : are_some_of ((0, true) ∷ (0, true) ∷ []) ((0, true) ∷ (0, true) ∷ []) ≡ false
each_once = refl

the_two_are_told : said_of (command.get_unsat_assumptions ∷ []) (settled (is_unsat ((0, true) ∷ (1, true) ∷
    [])) guarded)
    ≡ codes "(p q)\n"
the_two_are_told = refl

abbrev without_p_and_q : Valuation
without_p_and_q = (0, Truth false) ∷ (1, Truth false) ∷ (2, Truth false) ∷ (3, Text []) ∷ []

without_assumptions : is_model guarded [] without_p_and_q ≡ true
unfolding computing
without_assumptions = refl

not_under_p : is_model guarded ((0, true) ∷ []) without_p_and_q ≡ false
unfolding computing
not_under_p = refl

under_p_alone : is_model guarded ((0, true) ∷ (1, false) ∷ [])
    ((0, Truth true) ∷ (1, Truth false) ∷ (2, Truth false) ∷ (3, Text (codes "a")) ∷ []) ≡ true
unfolding computing
under_p_alone = refl

a_literal_and_its_negation : said_of (command.get_unsat_assumptions ∷ [])
    (settled (is_unsat ((0, true) ∷ (0, false) ∷ [])) guarded) ≡ codes "(p (not p))\n"
a_literal_and_its_negation = refl

-- r occurs nowhere, unless it is assumed
r_is_false_by_default : are_defaults (constants_of guarded) (live_terms guarded) without_p_and_q ≡ true
r_is_false_by_default = refl

r_is_assumed : are_defaults (constants_of guarded) (map assumed ((2, true) ∷ []) ++ live_terms guarded)
    ((0, Truth false) ∷ (1, Truth false) ∷ (2, Truth true) ∷ (3, Text []) ∷ []) ≡ true
r_is_assumed = refl

-- Errors in order, behind each of which the state is as it was.
errors_in_order :
    said_of (command.assert (named (codes "y")) ∷ command.declare_constant (codes "x") (named (codes "String")) ∷
    command.declare_constant (codes "x") (named (codes "String")) ∷ command.pop 1 ∷ command.get_model ∷ []) quiet
    ≡ codes "(error \"unknown symbol y\")\n(error \"already declared x\")\n(error \"no such level\")\n"
    ++ codes "(error \"no model\")\n"
errors_in_order = refl
