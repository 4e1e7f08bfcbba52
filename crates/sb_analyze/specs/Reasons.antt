-- What a trail has to be for its reasons to explain it, and levels of literals on it.
use Rattle.std.specs.Prelude.{◌≡◌, ℕ, max, ◌⊎◌, List, [], ◌∷◌, ◌++◌, unwrap_or, true, Some, None}
use Rattle.sb_lit.specs.declared.clause.Lit.{Lit}
use Rattle.sb_lit.specs.declared.clause.ClauseId.{ClauseId}
use Rattle.sb_lit.specs.Clauses.{leaves_only}
use Rattle.sb_lit.specs.Kept.{Kept, KeptClause, kept_at}
use Rattle.sb_trail.specs.declared.assigned.Assigned.{Assigned}
use Rattle.sb_trail.specs.Assignments.{held, level_of}

-- the reason of the entry is a kept clause that has its literal, and whose other literals are false before it
pub record HasReason (kept : Kept) (before : List Assigned) (entry : Assigned) : Type 0 where
  pub id : ClauseId
  pub reason : entry.reason ≡ Some id
  pub clause : KeptClause
  pub there : kept_at kept id.0 ≡ Some clause
  pub forces : leaves_only (held before) clause.literals entry.literal ≡ true

-- each entry is a decision, or has such a reason
abbrev pub AreReasoned : Kept → List Assigned → List Assigned → Type 0
AreReasoned kept before [] = Unit {0}
AreReasoned kept before (entry ∷ entries) = ((entry.reason ≡ None) ⊎ HasReason kept before entry)
    × AreReasoned kept (before ++ entry ∷ []) entries

-- the level of a literal, 0 where it has no value
abbrev pub level_in : List Assigned → Lit → ℕ
level_in entries l = unwrap_or (level_of entries l.atom) 0

-- the greatest level of the literals
abbrev pub highest : List Assigned → List Lit → ℕ
highest entries [] = 0
highest entries (l ∷ ls) = max (level_in entries l) (highest entries ls)
