-- Private: what a number of a watch list comes to.
use Rattle.std.specs.Prelude.{◌≡◌, ◌⊎◌, ℕ, ◌<◌, true, false, nat_lt, List, length, None}
use Rattle.std.specs.List.{list_all}
use Rattle.sb_lit.specs.declared.clause.Lit.{Lit}
use Rattle.sb_lit.specs.Clauses.{is_same_literal, is_among, is_true_under, is_false_under, is_false_clause}
use Rattle.sb_lit.specs.Kept.{Kept, kept_at}
use Rattle.sb_trail.specs.declared.assigned.Assigned.{Assigned}
use Rattle.sb_trail.specs.Assignments.{held, IsConsistent}
use Rattle.sb_clauses.specs.declared.way.Way.{Way}
use Rattle.sb_clauses.specs.declared.way.Way.TheVariants.{Gone, Stays, Forces, Moves, False}
use Rattle.sb_clauses.specs.Looking.{IsLeft}
use Rattle.sb_clauses.specs.Watching.{list_of, literal_of, is_small, HasClause}

-- the other watched literal is one of the clause, and each literal has a list
pub record IsReadable (lists : ℕ) (clause : List Lit) (other : Lit) : Type 0 where
  pub inside : 0 < length clause → is_among clause other ≡ true
  pub small : list_all is_small clause ≡ true
  pub listed : list_all (λ l. nat_lt (list_of l) lists) clause ≡ true

-- the other watched literal is true, and one of the clause, or the list has no clauses without literals
pub record IsPassed (kept : Kept) (literals : List Lit) (other : Lit) (list n : ℕ) : Type 0 where
  pub holds : is_true_under literals other ≡ true
  pub among : (1 < list) ⊎ ((clause : List Lit) → HasClause kept n clause → is_among clause other ≡ true)

-- the other watched literal is left
pub record IsForcing (kept : Kept) (entries : List Assigned) (other l : Lit) (n : ℕ) : Type 0 where
  pub clause : List Lit
  pub has : HasClause kept n clause
  pub left : IsLeft entries clause other l

-- the literal of a list may be watched in the place of the own one
pub record IsOpenTo (kept : Kept) (literals : List Lit) (other : Lit) (lists n code : ℕ) : Type 0 where
  pub begun : 1 < code
  pub inside : code < lists
  pub apart : is_same_literal (literal_of code) other ≡ false
  pub not_false : is_false_under literals (literal_of code) ≡ false
  pub among : (clause : List Lit) → HasClause kept n clause → is_among clause (literal_of code) ≡ true
  pub consistent : IsConsistent literals

-- the clause is false
pub record IsLost (kept : Kept) (literals : List Lit) (n : ℕ) : Type 0 where
  pub clause : List Lit
  pub has : HasClause kept n clause
  pub is_false : is_false_clause literals clause ≡ true

abbrev pub IsWay : Kept → List Assigned → Lit → ℕ → ℕ → ℕ → Way → Type 0
IsWay kept entries other list lists n Gone = kept_at kept n ≡ None
IsWay kept entries other list lists n Stays = IsPassed kept (held entries) other list n
IsWay kept entries other list lists n (Forces l) = IsForcing kept entries other l n
IsWay kept entries other list lists n (Moves code) = IsOpenTo kept (held entries) other lists n code
IsWay kept entries other list lists n False = IsLost kept (held entries) n
