-- Private: propagation to its end.
use Rattle.std.specs.Prelude.{◌≡◌, ℕ, ◌<◌, true, List, length}
use Rattle.sb_lit.specs.declared.clause.Lit.{Lit}
use Rattle.sb_lit.specs.Clauses.{negation, is_among, is_false_under}
use Rattle.sb_lit.specs.Kept.{Kept}
use Rattle.sb_trail.specs.declared.assigned.Assigned.{Assigned}
use Rattle.sb_trail.specs.Assignments.{Assignments, held}
use Rattle.sb_clauses.specs.Looking.{IsHeld}
use Rattle.sb_clauses.specs.Propagation.{GrowsBy}
use Rattle.sb_clauses.specs.Watching.{literal_at, is_short, HasClause, watched_at}

-- each literal of the first list is in the second
abbrev pub Grown : List Lit → List Lit → Type 0
Grown old now = (l : Lit) → is_among old l ≡ true → is_among now l ≡ true

-- where the own literal is false under `walked`, the other one is true
pub record IsFine (walked literals clause : List Lit) (own other : Lit) : Type 0 where
  pub short : is_short own other ≡ true → IsHeld literals clause other
  pub watched : is_false_under walked own ≡ true → IsHeld literals clause other

-- the same of each clause
abbrev pub IsFineSide : Kept → List Lit → List Lit → List ℕ → List ℕ → Type 0
IsFineSide kept walked literals own other = (id : ℕ) (clause : List Lit) → HasClause kept id clause
    → IsFine walked literals clause (watched_at own id) (watched_at other id)

pub record AreFine (kept : Kept) (walked literals : List Lit) (firsts seconds : List ℕ) : Type 0 where
  pub at_first : IsFineSide kept walked literals firsts seconds
  pub at_second : IsFineSide kept walked literals seconds firsts

-- the trail has grown, and what was fine stays so
pub record Settles (kept : Kept) (old_firsts old_seconds new_firsts new_seconds : List ℕ) (old new : Assignments) : Type
    0 where
  pub grows : GrowsBy kept old new
  pub keeps : (walked literals : List Lit) → Grown walked (held old.literals) → Grown literals (held old.literals)
      → AreFine kept walked literals old_firsts old_seconds → AreFine kept walked literals new_firsts new_seconds

-- the literal is false by the entry at the place
pub record IsFalseAt (entries : List Assigned) (at : ℕ) (l : Lit) : Type 0 where
  pub inside : at < length entries
  pub negated : negation l ≡ literal_at (held entries) at
