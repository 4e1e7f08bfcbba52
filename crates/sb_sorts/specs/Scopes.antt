-- What a scope keeps, as the definitions have it.
use Rattle.std.specs.Prelude.{◌≡◌, ℕ, ◌+◌, Bool, true, false, ◌&&◌, nat_le, nat_lt, List, [], ◌∷◌, ◌++◌, map, length, slice_get, Some, None}
use Rattle.std.specs.List.{list_all}
use Rattle.sb_sorts.specs.declared.scope.Named.{Named}
use Rattle.sb_sorts.specs.declared.scope.Named.TheVariants as code
use Rattle.sb_term.specs.declared.sort.Sort.{Sort}
use Rattle.sb_term.specs.Symbols.{sort_in}
use Rattle.sb_term.specs.Numbered.{term_at}
use Rattle.sb_script.specs.Names.{Name}
use Rattle.sb_meaning.specs.Terms as terms
use Rattle.sb_meaning.specs.Sorts.{is_same_sort}
use Rattle.sb_script.specs.Scopes as meaning

-- the names in force, in the order of declaration, and the sorts of all constants declared so far, by serial
pub record ScopeNames : Type 0 where
  pub names : List (Name × Named)
  pub sorts : List Sort
  -- names stay where levels are left
  pub global : Bool

-- what a name stands for, where these are the terms by number
abbrev pub named_in : List terms.Term → Named → meaning.Named
named_in ts (code.Constant serial sort) = meaning.a_constant serial.0 (sort_in sort)
named_in ts (code.Definition d) = meaning.a_definition (map sort_in d.sorts) (term_at ts d.body)
named_in ts code.Marked = meaning.a_marked_name

abbrev pub naming_in : List terms.Term → Name × Named → meaning.Naming
naming_in ts n = (n.0, named_in ts n.1)

abbrev pub names_in : List terms.Term → ScopeNames → List meaning.Naming
names_in ts kept = map (naming_in ts) kept.names

-- the body of a definition has a number below this
abbrev pub is_body_below : ℕ → Named → Bool
is_body_below n (code.Constant serial sort) = true
is_body_below n (code.Definition d) = nat_lt d.body n
is_body_below n code.Marked = true

-- bodies are numbers of terms of the table
abbrev pub AreBodies : List terms.Term → ScopeNames → Type 0
AreBodies ts kept = list_all (λ n. is_body_below (length ts) n.1) kept.names ≡ true

-- the constants among names, in order: their serials and sorts
abbrev pub constants_among : List (Name × Named) → List (ℕ × terms.Sort)
constants_among [] = []
constants_among ((name, code.Constant serial sort) ∷ ns) = (serial.0, sort_in sort) ∷ constants_among ns
constants_among ((name, code.Definition d) ∷ ns) = constants_among ns
constants_among ((name, code.Marked) ∷ ns) = constants_among ns

-- their serials
abbrev pub serials_in : List (Name × Named) → List ℕ
serials_in ns = map (λ c. c.0) (constants_among ns)

-- the numbers ascend, from this one on, and are below the bound
abbrev pub ascend_below : ℕ → ℕ → List ℕ → Bool
ascend_below from bound [] = true
ascend_below from bound (n ∷ ns) = nat_le from n && (nat_lt n bound && ascend_below (n + 1) bound ns)

-- the constant has the sort that stands at its serial
abbrev pub has_sort : List terms.Sort → ℕ × terms.Sort → Bool
has_sort sorts c = elim (slice_get sorts c.0) [ None ↦ false | Some sort ↦ is_same_sort c.1 sort ]

abbrev pub are_sorted : List terms.Sort → List (ℕ × terms.Sort) → Bool
are_sorted sorts cs = list_all (has_sort sorts) cs

-- the scope with one more constant, and with one more marked name
abbrev pub with_constant : Name → Sort → ScopeNames → ScopeNames
with_constant name sort kept = record kept {
  names = kept.names ++ (name, code.Constant (record { 0 = length kept.sorts }) sort) ∷ [];
  sorts = kept.sorts ++ sort ∷ [];
}

abbrev pub with_mark : Name → ScopeNames → ScopeNames
with_mark name kept = record kept { names = kept.names ++ (name, code.Marked) ∷ [] }

-- and with one more definition
abbrev pub with_definition : Name → List Sort → ℕ → ScopeNames → ScopeNames
with_definition name sorts body kept =
    record kept { names = kept.names ++ (name, code.Definition (record { sorts = sorts; body = body })) ∷ [] }
