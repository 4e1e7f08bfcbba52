-- Private: a literal of each clause that is looked at before the others.
use Rattle.std.specs.Prelude.{◌≡◌, ℕ, ◌<◌, ◌≤◌, true, false, List, length}
use Rattle.sb_lit.specs.declared.clause.Lit.{Lit}
use Rattle.sb_lit.specs.Clauses.{is_among}
use Rattle.sb_lit.specs.Kept.{Kept}
use Rattle.sb_trail.specs.Assignments.{IsConsistent}
use Rattle.sb_clauses.specs.Looking.{is_or_false}
use Rattle.sb_clauses.specs.Watching.{literal_of, HasClause, code_at, watched_at}

-- a spare literal of a clause is one of its literals
pub record AreSpared (kept : Kept) (spares : List ℕ) : Type 0 where
  pub among : (id : ℕ) (clause : List Lit) → HasClause kept id clause → 1 < code_at spares id
      → is_among clause (watched_at spares id) ≡ true
  -- a number that is not given has none
  pub past : (id : ℕ) → length kept ≤ id → code_at spares id ≤ 1

-- the spare literal at the number is neither false nor the other watched one
pub record IsFree (literals : List Lit) (spares : List ℕ) (n other lists code : ℕ) : Type 0 where
  pub there : code ≡ code_at spares n
  pub begun : 1 < code
  pub inside : code < lists
  pub is_new : is_or_false literals (literal_of other) (literal_of code) ≡ false
  pub consistent : IsConsistent literals
