-- Private: names that are bound while a term is read.
use Rattle.std.specs.Prelude.{◌≡◌, ℕ, if◌then◌else◌, nat_eq, List, [], ◌∷◌, ◌++◌, map, Option, Some, None}
use Rattle.std.specs.Cmp.Lexicographic.{pointwise}
use Rattle.std.specs.Map.{lookup}
use Rattle.std.specs.declared.vec.Vec.{Vec}
use Rattle.std.specs.declared.alloc.Global.{Global}
use Rattle.sb_meaning.specs.Terms.{Term}
use Rattle.sb_script.specs.Names.{Name, is_name}
use Rattle.sb_script.specs.Scopes.{Naming, a_term}
use Rattle.sb_term.specs.Numbered.{term_at, AllNumbers}
use Rattle.sb_sorts.specs.Scopes.{ScopeNames, names_in, AreBodies}
use Rattle.sb_sorts.specs.declared.locals.Binding.{Binding}

-- what a name is bound to; the first binding counts
abbrev pub bound_to : List (Name × ℕ) → Name → Option ℕ
bound_to [] name = None
bound_to (b ∷ bs) name = if is_name name b.0 then Some b.1 else bound_to bs name

abbrev pub locals_in : List Binding → List (Name × ℕ)
locals_in bs = map (λ b. (b.name.items, b.id)) bs

-- what a map has for a name
abbrev pub unless_none : Option (Option ℕ) → Option ℕ
unless_none (Some found) = found
unless_none None = None

abbrev pub found_in : List (Vec ℕ Global × Option ℕ) → Name → Option ℕ
found_in entries name = unless_none (lookup (λ key. pointwise nat_eq name key.items) entries)

-- each binding has what its name was before it
abbrev pub HaveOuter : List Binding → Type 0
HaveOuter [] = Unit {0}
HaveOuter (b ∷ bs) = (b.outer ≡ bound_to (locals_in bs) b.name.items) × HaveOuter bs

-- a name is found as it is bound, the innermost binding first
pub record AreBound (entries : List (Vec ℕ Global × Option ℕ)) (bs : List Binding) : Type 0 where
  pub found : (name : Name) → found_in entries name ≡ bound_to (locals_in bs) name
  pub outer : HaveOuter bs

-- the names in force while a term is read: those that are bound, and those of the scope
abbrev pub names_at : List Term → List (Name × ℕ) → ScopeNames → List Naming
names_at ts locals scope = map (λ l. (l.0, a_term (term_at ts l.1))) locals ++ names_in ts scope

-- what is bound, and what the scope defines, are terms of the table
pub record AreAt (ts : List Term) (locals : List (Name × ℕ)) (scope : ScopeNames) : Type 0 where
  pub bound : AllNumbers ts (map (λ l. l.1) locals)
  pub bodies : AreBodies ts scope
