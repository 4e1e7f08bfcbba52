-- What a name stands for in a state.
use Rattle.std.specs.Prelude.{ℕ, List, [], ◌∷◌, Option}
use Rattle.sb_script.specs.Names.{Name, found_in}
use Rattle.sb_meaning.specs.Terms.{Sort, Term}

pub data Named : Type 0 where
  -- a declared constant, with its serial and its sort
  a_constant : ℕ → Sort → Named
  -- a definition: the sorts of its parameters, and its body
  a_definition : List Sort → Term → Named
  -- a name whose declaration or definition is left out
  a_marked_name : Named
  -- within a term: a name that a let binds, or a parameter
  a_term : Term → Named

abbrev pub Naming : Type 0
Naming = Name × Named

-- what the name stands for
abbrev pub named : List Naming → Name → Option Named
named names name = found_in names name

-- a declared constant, as it is printed
pub record Constant : Type 0 where
  pub name : Name
  pub serial : ℕ
  pub sort : Sort

-- the constants among namings, in order
abbrev pub constants_in : List Naming → List Constant
constants_in [] = []
constants_in ((name, a_constant serial sort) ∷ ns) =
    record { name = name; serial = serial; sort = sort } ∷ constants_in ns
constants_in ((name, a_definition sorts body) ∷ ns) = constants_in ns
constants_in ((name, a_marked_name) ∷ ns) = constants_in ns
constants_in ((name, a_term t) ∷ ns) = constants_in ns
