-- Private: what the parts of a definition are, and what they are answered.
use Rattle.std.specs.Prelude.{◌≡◌, ℕ, Bool, not, if◌then◌else◌, List, [], ◌∷◌, ◌++◌, map, Option, Some, None, option_map, Result}
use Rattle.std.specs.declared.vec.Vec.{Vec}
use Rattle.std.specs.declared.alloc.Global.{Global}
use Rattle.sb_reader.specs.Forms.{Form, Group, shape_of, pair_of}
use Rattle.sb_reader.specs.declared.sexpr.Shape.{Shape}
use Rattle.sb_meaning.specs.Terms.{Sort, Term}
use Rattle.sb_script.specs.Names.{Name, is_among}
use Rattle.sb_script.specs.Symbols.{is_taken}
use Rattle.sb_script.specs.Faults.{Fault}
use Rattle.sb_script.specs.Commands.{Parameter, symbol_in}
use Rattle.sb_script.specs.Errors as error
use Rattle.sb_script.specs.Errors.{Error}
use Rattle.sb_script.specs.State.{State, names_of, defined}
use Rattle.sb_script.specs.Steps.{Step, fails_by, succeeds}
use Rattle.sb_script.specs.Replies.{names_of_parameters, sorts_in_definition, body_errors, unless_error, defines}
use Rattle.sb_sorts.specs.declared.read.Parameter as code
use Rattle.sb_term.specs.Symbols.{sort_in}
use denote.Ref.{Bor}

-- a parameter by its name and the form of its sort
abbrev pub pair_in : Bor Name × Shape → Parameter
pair_in p = (p.0.now, shape_of p.1)

abbrev pub named_sort : Option (Form × Form) → Option Parameter
named_sort None = None
named_sort (Some (name, sort)) = option_map (λ n. (n, sort)) (symbol_in name)

-- the parameter that a form is
abbrev pub parameter_in : Form → Option Parameter
parameter_in (Group parts) = named_sort (pair_of parts)
parameter_in _ = None

abbrev pub sorts_in : List code.Parameter → List Sort
sorts_in ps = map (λ p. sort_in p.sort) ps

-- these are the parameters, unless the sort of one is left out
abbrev pub AreParameters : List Parameter → Option (Vec code.Parameter Global) → Type 0
AreParameters ps None = sorts_in_definition ps ≡ None
AreParameters ps (Some found) = (sorts_in_definition ps ≡ Some (sorts_in found.items))
    × (map (λ p. p.name.now) found.items ≡ names_of_parameters ps)

abbrev pub names_in : List (Vec ℕ Global) → List Name
names_in keys = map (λ key. key.items) keys

-- the name goes behind those that were there, unless it is one of them
pub record HasPut (old : List Name) (name : Name) (new : List Name) (is_new : Bool) : Type 0 where
  pub told : is_new ≡ not (is_among old name)
  pub names : new ≡ (if is_among old name then old else old ++ name ∷ [])

-- the error of a name that can't be declared
abbrev pub name_error : Option Name → List Error
name_error (Some name) = error.already_declared name ∷ []
name_error None = []

-- what is answered to a definition, where this name can't be declared, by its body and the sort that it is to have
abbrev pub defines_as : Option Name → Sort → Name → List Sort → Result Term Fault → State → Step
defines_as refused made name sorts reading s =
    unless_error (name_error refused ++ body_errors made reading) (defines name sorts reading s) s

-- a definition is put behind the names in force
abbrev pub defines_term : Name → List Sort → Term → State → Step
defines_term name sorts body s = if is_taken (names_of s) name then fails_by (error.already_declared name) s
    else succeeds (defined name sorts body s)
