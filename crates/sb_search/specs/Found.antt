-- What a search comes to.
use Rattle.std.specs.Prelude.{◌≡◌, ℕ, Bool, true, not, is_none, List, ◌++◌}
use Rattle.std.specs.List.{list_all}
use Rattle.sb_lit.specs.declared.clause.Lit.{Lit}
use Rattle.sb_lit.specs.Budgets.{Spending}
use Rattle.sb_lit.specs.Clauses.{is_true_under}
use Rattle.sb_lit.specs.Kept.{Kept}
use Rattle.sb_trail.specs.declared.assigned.Assigned.{Assigned}
use Rattle.sb_trail.specs.Assignments.{held, value_of}
use Rattle.sb_clauses.specs.Propagation.{State, HasNoneFalse}
use Rattle.sb_analyze.specs.Cores.{IsKeptCore}
use Rattle.sb_search.specs.declared.found.Found.{Found}
use Rattle.sb_search.specs.declared.found.Found.TheVariants as found

-- the atom has a value
abbrev pub has_value : List Assigned → ℕ → Bool
has_value entries atom = not (is_none (value_of entries atom))

-- the literals are true
abbrev pub are_true : List Lit → List Lit → Bool
are_true held literals = list_all (is_true_under held) literals

-- Each atom that is wanted has a value, no kept clause is false, and all assumptions are true.
pub record IsFull (wanted : List ℕ) (assumptions : List Lit) (search : State) : Type 0 where
  pub full : list_all (has_value search.trail.literals) wanted ≡ true
  pub none_false : HasNoneFalse search.kept (held search.trail.literals)
  pub assumed : are_true (held search.trail.literals) assumptions ≡ true

-- What an answer says: a full trail; a kept clause of negated assumptions alone; all is spent.
abbrev pub IsFound : List ℕ → List Lit → State → Spending → Found → Type 0
IsFound wanted assumptions search budget found.Sat = IsFull wanted assumptions search
IsFound wanted assumptions search budget (found.Unsat id) = IsKeptCore search.kept assumptions id.0
IsFound wanted assumptions search budget found.Spent = budget.spent ≡ budget.limit

-- the kept clauses stay, under their numbers, and others may stand behind them
abbrev pub GrowsTo : Kept → Kept → Type 0
GrowsTo old new = (more : Kept) × (new ≡ old ++ more)
