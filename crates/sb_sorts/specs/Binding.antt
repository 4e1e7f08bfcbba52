-- Private: the names that a let or a list of parameters binds, as the code has them, and the forms that bind them.
use Rattle.std.specs.Prelude.{◌≡◌, ℕ, Bool, true, false, ◌&&◌, List, [], map, codes, Option, Some, None, Result, Ok}
use Rattle.std.specs.declared.vec.Vec.{Vec}
use Rattle.std.specs.declared.alloc.Global.{Global}
use Rattle.sb_reader.specs.Forms.{Form, Forms, Symbol, QuotedSymbol, Keyword, Numeral, OtherNumber, Words, Group, none, more, shape_of, shapes_in, pair_of}
use Rattle.sb_reader.specs.declared.sexpr.Shapes.{Shapes}
use Rattle.sb_reader.specs.declared.sexpr.Shape.{Shape}
use Rattle.sb_meaning.specs.Terms.{Term}
use Rattle.sb_script.specs.Names.{Name, is_name}
use Rattle.sb_script.specs.Scopes.{Naming, a_term}
use Rattle.sb_script.specs.Faults.{Fault}
use Rattle.sb_script.specs.Reading.{first_again, is_let}
use Rattle.sb_term.specs.Numbered.{term_at, AllNumbers}
use Rattle.sb_sorts.specs.declared.read.Parameter.{Parameter}
use Rattle.sb_sorts.specs.declared.read.Bound.{Bound}
use Rattle.sb_sorts.specs.Bodies.{bound_in}

-- names with the numbers of their values' terms
abbrev pub pairs_of : List Bound → List (Name × ℕ)
pairs_of bound = map (λ b. (b.name.now, b.id)) bound

-- as they stand among the names in force
abbrev pub locals_at : List Term → List (Name × ℕ) → List Naming
locals_at ts locals = map (λ l. (l.0, a_term (term_at ts l.1))) locals

-- the first name that stands again
abbrev pub first_again_in : List (Name × ℕ) → Option Name
first_again_in locals = first_again [] (map (λ l. l.0) locals)

-- the names that a set holds
abbrev pub items_of : List (Vec ℕ Global) → List Name
items_of keys = map (λ k. k.items) keys

-- these are the bindings that reading gives
pub record HasBound (ts : List Term) (reading : Result (List Naming) Fault) (bound : List (Name × ℕ)) : Type 0 where
  pub bindings : reading ≡ Ok (locals_at ts bound)
  pub numbers : AllNumbers ts (map (λ l. l.1) bound)

-- these are bound for the parameters from this place on
pub record HasParameters (ts : List Term) (place : ℕ) (ps : List Parameter) (locals : List (Name × ℕ)) : Type 0 where
  pub bound : locals_at ts locals ≡ bound_in place ps
  pub numbers : AllNumbers ts (map (λ l. l.1) locals)

-- the name that a symbol is, also where it is a reserved word
abbrev pub symbol_of : Form → Option Name
symbol_of (Symbol name) = Some name
symbol_of (QuotedSymbol name) = Some name
symbol_of (Keyword name) = None
symbol_of (Numeral digits) = None
symbol_of (OtherNumber bytes) = None
symbol_of (Words bytes) = None
symbol_of (Group list) = None

-- the forms of a list
abbrev pub list_of : Form → Option Forms
list_of (Symbol name) = None
list_of (QuotedSymbol name) = None
list_of (Keyword name) = None
list_of (Numeral digits) = None
list_of (OtherNumber bytes) = None
list_of (Words bytes) = None
list_of (Group list) = Some list

-- the form is a bare let
abbrev pub is_let_word : Form → Bool
is_let_word (Symbol name) = is_name name (codes "let")
is_let_word (QuotedSymbol name) = false
is_let_word (Keyword name) = false
is_let_word (Numeral digits) = false
is_let_word (OtherNumber bytes) = false
is_let_word (Words bytes) = false
is_let_word (Group list) = false

-- the forms are let ((name term) ..) term
abbrev pub is_let_list : Forms → Bool
is_let_list none = false
is_let_list (more first others) = is_let_word first && is_let others

-- what stands behind the first form
abbrev pub others_of : Forms → Forms
others_of none = none
others_of (more first others) = others

-- the bindings and the body of a let, by the forms behind its word, and by all
abbrev pub LetParts : Option (Shapes × Shape) → Forms → Type 0
LetParts None forms = is_let forms ≡ false
LetParts (Some (bindings, body)) forms =
    (forms ≡ more (Group (shapes_in bindings)) (more (shape_of body) none)) × (is_let forms ≡ true)

abbrev pub LetIn : Option (Shapes × Shape) → Forms → Type 0
LetIn None forms = is_let_list forms ≡ false
LetIn (Some (bindings, body)) forms =
    (others_of forms ≡ more (Group (shapes_in bindings)) (more (shape_of body) none)) × (is_let_list forms ≡ true)

-- the name and the value of (name value), by its two forms
abbrev pub named_value : Option Name → Form → Option (Name × Form)
named_value None value = None
named_value (Some name) value = Some (name, value)

abbrev pub value_of_pair : Option (Form × Form) → Option (Name × Form)
value_of_pair None = None
value_of_pair (Some (first, value)) = named_value (symbol_of first) value

abbrev pub value_of_list : Option Forms → Option (Name × Form)
value_of_list None = None
value_of_list (Some parts) = value_of_pair (pair_of parts)

abbrev pub binding_of : Form → Option (Name × Form)
binding_of form = value_of_list (list_of form)
