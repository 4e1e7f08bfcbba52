-- What the code keeps, as the state that the definitions have.
use Rattle.std.specs.Prelude.{◌≡◌, ℕ, suc, ◌<◌, Bool, true, false, ◌&&◌, ◌==◌, nat_lt, List, [], ◌∷◌, ◌++◌, map, take, drop, length, get_or, Option, Some, None, IfSome}
use Rattle.std.specs.List.{list_all}
use Rattle.sb_word.specs.Words.{are_characters}
use Rattle.sb_meaning.specs.Terms.{Sort, Term, boolean, integer, text, reglan}
use Rattle.sb_meaning.specs.Values.{Value, Valuation, Text, Truth, default_of}
use Rattle.sb_script.specs.State as meaning
use Rattle.sb_script.specs.State.{Assumption}
use Rattle.sb_rulebook.specs.Accepted.{question_in}
use Rattle.sb_rulebook.specs.Verdicts.{Question}
use Rattle.sb_term.specs.declared.assertion.Assertion.{Assertion}
use Rattle.sb_term.specs.Numbered.{term_at}
use Rattle.sb_term.specs.Symbols.{sort_in}
use Rattle.sb_sorts.specs.Scopes as scopes
use Rattle.sb_sorts.specs.Scopes.{names_in, constants_among, has_sort}
use Rattle.sb_script.specs.Scopes.{Naming}
use Rattle.sb_stack.specs.declared.constant.LiveConstant.{LiveConstant}
use Rattle.sb_stack.specs.declared.level.Level.{Level}
use Rattle.sb_stack.specs.declared.stack.Mode.{Mode}
use Rattle.sb_stack.specs.declared.stack.Mode.TheVariants as mode
use Rattle.sb_stack.specs.Speaking.{are_assumed}

pub record Stacked : Type 0 where
  pub logic_set : Bool
  pub begun : Bool
  pub print_success : Bool
  pub produce_models : Bool
  pub produce_unsat_assumptions : Bool
  pub scope : scopes.ScopeNames
  pub mode : Mode
  -- the words and the truth values of the last check that found some, the words unless they were taken; they count where
  -- the mode says so
  pub words : List (List ℕ)
  pub truths : List Bool
  -- the assumptions of the last check, none once levels were left; and those of the last one that was unsat which
  -- contradict what was asserted, which count where the mode says so
  pub assumptions : List Assumption
  pub unsat_assumptions : List Assumption
  -- the terms by number, and the live assertions, in order
  pub table : List Term
  pub assertions : List Assertion
  -- where the levels above the first one began, the innermost first
  pub levels : List Level

-- the value of the constant of a serial, by its sort: the word or the truth value that stands there, past the last the
-- empty word and false
abbrev pub value_at : List (List ℕ) → List Bool → ℕ → Sort → Value
value_at words truths serial boolean = Truth (get_or truths serial false)
value_at words truths serial text = Text (get_or words serial [])
value_at words truths serial integer = default_of integer
value_at words truths serial reglan = Text (get_or words serial [])

-- the values of these constants, by serial and sort
abbrev pub values_at : List (ℕ × Sort) → List (List ℕ) → List Bool → Valuation
values_at constants words truths = map (λ c. (c.0, value_at words truths c.0 c.1)) constants

-- the live constants, in the order of declaration: their serials and sorts
abbrev pub live_constants : Stacked → List (ℕ × Sort)
live_constants kept = constants_among kept.scope.names

-- a live constant, as it is given out
abbrev pub live_in : LiveConstant → ℕ × Sort
live_in c = (c.serial.0, sort_in c.sort)

abbrev pub are_words : List (List ℕ) → Bool
are_words [] = true
are_words (w ∷ ws) = are_characters w && are_words ws

-- the values are of these constants, and what contradicts are these assumptions
abbrev pub mode_in : List (ℕ × Sort) → List (List ℕ) → List Bool → List Assumption → Mode → meaning.Mode
mode_in constants words truths unsat mode.Plain = meaning.plain
mode_in constants words truths unsat mode.Sat = meaning.satisfied (values_at constants words truths)
mode_in constants words truths unsat mode.Unsat = meaning.refuted unsat
mode_in constants words truths unsat mode.Unknown = meaning.undecided

abbrev pub assertion_of : List Term → Option ℕ → meaning.Assertion
assertion_of ts (Some id) = meaning.asserted (term_at ts id)
assertion_of ts None = meaning.a_mark

abbrev pub assertion_in : List Term → Assertion → meaning.Assertion
assertion_in ts a = assertion_of ts a.term

-- the options, where those that scripts can't change yet are as at the start
abbrev pub options_of : Bool → Bool → Bool → Bool → meaning.Options
options_of print_success produce_models produce_unsat_assumptions global_declarations = record {
  print_success = print_success;
  produce_models = produce_models;
  produce_unsat_assumptions = produce_unsat_assumptions;
  global_declarations = global_declarations;
  resource_limit = 0;
}

-- the names that were there before a level began with so many: all where names are global
abbrev pub front_names : {A : Type 0} → Bool → ℕ → List A → List A
front_names true n names = names
front_names false n names = take n names

-- and those of the level itself
abbrev pub own_names : {A : Type 0} → Bool → ℕ → List A → List A
own_names true n names = []
own_names false n names = drop n names

-- what names and assertions are of the first level, where names are global or not
abbrev pub first_level : Bool → List Level → List Naming → List meaning.Assertion → meaning.Level
first_level global [] names assertions = record { names = names; assertions = assertions }
first_level global (l ∷ ls) names assertions =
    first_level global ls (front_names global l.names names) (take l.assertions assertions)

-- and of those above it, the innermost first
abbrev pub levels_above : Bool → List Level → List Naming → List meaning.Assertion → List meaning.Level
levels_above global [] names assertions = []
levels_above global (l ∷ ls) names assertions =
    record { names = own_names global l.names names; assertions = drop l.assertions assertions }
    ∷ levels_above global ls (front_names global l.names names) (take l.assertions assertions)

-- each assertion has the number of its level, 0 of the first one
abbrev pub have_levels : List Level → List Assertion → Bool
have_levels [] assertions = list_all (λ a. a.level == 0) assertions
have_levels (l ∷ ls) assertions =
    list_all (λ a. a.level == suc (length ls)) (drop l.assertions assertions)
    && have_levels ls (take l.assertions assertions)

abbrev pub state_of : Stacked → meaning.State
state_of kept = record {
  logic_set = kept.logic_set;
  begun = kept.begun;
  options =
      options_of kept.print_success kept.produce_models kept.produce_unsat_assumptions kept.scope.global;
  sorts = map sort_in kept.scope.sorts;
  mode = mode_in (live_constants kept) kept.words kept.truths kept.unsat_assumptions kept.mode;
  first = first_level kept.scope.global kept.levels (names_in kept.table kept.scope)
      (map (assertion_in kept.table) kept.assertions);
  above = levels_above kept.scope.global kept.levels (names_in kept.table kept.scope)
      (map (assertion_in kept.table) kept.assertions);
}

-- the assumptions of the last check, and what it asked
abbrev pub given_in : Stacked → List Assumption
given_in kept = kept.assumptions

abbrev pub question_of : Stacked → Question
question_of kept = question_in (state_of kept) (given_in kept)

-- they are of live constants of sort Bool
pub record AreAssumed (stack : Stacked) : Type 0 where
  pub live : are_assumed (live_constants stack) (given_in stack) ≡ true
  pub sorted : list_all (λ a. has_sort (state_of stack).sorts (a.0, boolean)) (given_in stack) ≡ true
  pub below : list_all (λ a. nat_lt a.0 (length stack.scope.sorts)) (given_in stack) ≡ true

-- the number of the assertion's term, where it is no mark, is below this
abbrev pub HasNumberBelow : ℕ → Assertion → Type 0
HasNumberBelow n a = IfSome a.term (λ id. id < n)

-- the old ones stay in their places
abbrev pub IsLonger : List Assertion → List Assertion → Type 0
IsLonger old new = (more : List Assertion) × (new ≡ old ++ more)

-- the last words are taken, and no model is left
abbrev pub without_words : Stacked → Stacked
without_words kept = record kept { mode = mode.Plain; words = [] }
