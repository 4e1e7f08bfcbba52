-- The state between two commands (SMT-LIB 2.6, section 4.1): options, constants, levels with names and assertions, and
-- the mode.
use Rattle.std.specs.Prelude.{◌≡◌, ℕ, Bool, true, false, ◌&&◌, ◌==◌, if◌then◌else◌, List, [], ◌∷◌, ◌++◌, map, length, drop, replicate}
use Rattle.sb_script.specs.Names.{Name}
use Rattle.sb_meaning.specs.Terms.{Sort, Term, boolean, constant, apply, no_terms, with_term}
use Rattle.sb_meaning.specs.Terms as symbol
use Rattle.sb_meaning.specs.Values.{Valuation, is_of}
use Rattle.sb_meaning.specs.Truth.{all_hold}
use Rattle.sb_script.specs.Scopes.{Named, Naming, Constant, a_constant, a_definition, a_marked_name, constants_in}

-- what stands for an assertion: its term, or a mark where it was left out
pub data Assertion : Type 0 where
  asserted : Term → Assertion
  a_mark : Assertion

-- a Bool constant, by its serial, or its negation
abbrev pub Assumption : Type 0
Assumption = ℕ × Bool

-- what the last check found, until the script says something new
pub data Mode : Type 0 where
  plain : Mode
  -- sat, with these values
  satisfied : Valuation → Mode
  -- unsat, of these assumptions
  refuted : List Assumption → Mode
  undecided : Mode

pub record Options : Type 0 where
  pub print_success : Bool
  pub produce_models : Bool
  pub produce_unsat_assumptions : Bool
  pub global_declarations : Bool
  -- 0 stands for 2^64 - 1
  pub resource_limit : ℕ

pub record Level : Type 0 where
  -- in the order of declaration
  pub names : List Naming
  -- in the order of assertion
  pub assertions : List Assertion

pub record State : Type 0 where
  pub logic_set : Bool
  -- a logic was set, or something declared, defined or asserted, so that it is too late for :global-declarations
  pub begun : Bool
  pub options : Options
  -- the sorts of all constants declared so far, by serial
  pub sorts : List Sort
  pub mode : Mode
  -- the first level, and those above it, the innermost first
  pub first : Level
  pub above : List Level

abbrev pub empty_level : Level
empty_level = record { names = []; assertions = [] }

abbrev pub first_options : Options
first_options = record {
  print_success = true;
  produce_models = false;
  produce_unsat_assumptions = false;
  global_declarations = false;
  resource_limit = 0;
}

-- the start, where constants of these sorts were declared before
abbrev pub start_behind : List Sort → State
start_behind sorts = record {
  logic_set = false;
  begun = false;
  options = first_options;
  sorts = sorts;
  mode = plain;
  first = empty_level;
  above = [];
}

abbrev pub start : State
start = start_behind []

-- all levels one behind the other, the first one in front
abbrev pub over_levels : {A : Type 0} → (Level → List A) → Level → List Level → List A
over_levels part first [] = part first
over_levels part first (level ∷ levels) = over_levels part first levels ++ part level

-- the names in force
abbrev pub names_of : State → List Naming
names_of s = over_levels (λ l. l.names) s.first s.above

-- the live constants, by serial
abbrev pub constants_of : State → List Constant
constants_of s = constants_in (names_of s)

-- the live assertions
abbrev pub live : State → List Assertion
live s = over_levels (λ l. l.assertions) s.first s.above

-- the state with its innermost level changed
abbrev pub in_level : (Level → Level) → Level → List Level → Level × List Level
in_level change first [] = (change first, [])
in_level change first (level ∷ levels) = (first, change level ∷ levels)

abbrev pub innermost : (Level → Level) → State → State
innermost change s = let levels = in_level change s.first s.above in record s { first = levels.0; above = levels.1 }

-- something is said that the last check did not look at
abbrev pub said : State → State
said s = record s { begun = true; mode = plain }

-- the level changed that new names enter: the first one where declarations are global, else the innermost
abbrev pub in_level_of_names : Bool → (Level → Level) → Level → List Level → Level × List Level
in_level_of_names true change first levels = (change first, levels)
in_level_of_names false change first levels = in_level change first levels

-- a new name, of this
abbrev pub with_name : Name → Named → State → State
with_name name named s =
    let levels = in_level_of_names s.options.global_declarations
    (λ l. record l { names = l.names ++ (name, named) ∷ [] }) s.first s.above in
    record (said s) { first = levels.0; above = levels.1 }

-- a new constant, with the next serial; a definition; a name that is marked; a new assertion
abbrev pub declared : Name → Sort → State → State
declared name sort s = with_name name (a_constant (length s.sorts) sort) (record s { sorts = s.sorts ++ sort ∷ [] })

abbrev pub defined : Name → List Sort → Term → State → State
defined name sorts body s = with_name name (a_definition sorts body) s

abbrev pub marked : Name → State → State
marked name s = with_name name a_marked_name s

abbrev pub with_assertion : Assertion → State → State
with_assertion assertion s = innermost (λ l. record l { assertions = l.assertions ++ assertion ∷ [] }) (said s)

-- so many levels more, and so many less
abbrev pub pushed : ℕ → State → State
pushed n s = record s { mode = plain; above = replicate n empty_level ++ s.above }

abbrev pub popped : ℕ → State → State
popped n s = record s { mode = plain; above = drop n s.above }

-- all levels but the first go, and what the first one holds; where declarations are global its names stay
abbrev pub without_assertions : State → State
without_assertions s = record s {
  mode = plain;
  first = record { names = if s.options.global_declarations then s.first.names else []; assertions = [] };
  above = [];
}

-- the terms of assertions, without the marks
abbrev pub terms_in : List Assertion → List Term
terms_in [] = []
terms_in (asserted term ∷ rest) = term ∷ terms_in rest
terms_in (a_mark ∷ rest) = terms_in rest

abbrev pub live_terms : State → List Term
live_terms s = terms_in (live s)

-- a value for each of the constants, in order, of its sort
abbrev pub fits : List Constant → Valuation → Bool
fits [] [] = true
fits (c ∷ cs) (p ∷ v) = ((c.serial == p.0) && is_of c.sort p.1) && fits cs v
fits _ _ = false

-- an assumption as a term
abbrev pub assumed : Assumption → Term
assumed (serial, true) = constant serial boolean
assumed (serial, false) = apply symbol.core_not (with_term (constant serial boolean) no_terms)

-- The values are of the live constants, and make each assumption and each live assertion true.
abbrev pub is_model : State → List Assumption → Valuation → Bool
is_model s assumptions v = fits (constants_of s) v && all_hold (map assumed assumptions ++ live_terms s) v

abbrev pub Satisfiable : State → List Assumption → Type 0
Satisfiable s assumptions = (v : Valuation) × (is_model s assumptions v ≡ true)
