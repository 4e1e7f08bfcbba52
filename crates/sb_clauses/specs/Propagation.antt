-- Unit propagation of kept clauses on a trail.
use Rattle.std.specs.Prelude.{◌≡◌, ℕ, Bool, true, false, nat_lt, List, [], ◌∷◌, ◌++◌, map, Option, Some, None}
use Rattle.std.specs.List.{list_all}
use Rattle.sb_lit.specs.declared.clause.Lit.{Lit}
use Rattle.sb_lit.specs.declared.clause.ClauseId.{ClauseId}
use Rattle.sb_lit.specs.Clauses.{is_false_clause, leaves_only}
use Rattle.sb_lit.specs.Kept.{Kept, KeptClause, kept_at}
use Rattle.sb_trail.specs.declared.assigned.Assigned.{Assigned}
use Rattle.sb_trail.specs.Assignments.{Assignments, held, current_level}
use Rattle.sb_clauses.specs.declared.propagated.Propagated.{Propagated}
use Rattle.sb_clauses.specs.declared.propagated.Propagated.TheVariants.{Done, Conflict}

-- the kept clauses, and the trail that they are propagated on
pub record State : Type 0 where
  pub kept : Kept
  pub trail : Assignments

-- no clause stays; the numbers stay as they are
abbrev pub all_dropped : Kept → Kept
all_dropped kept = map (λ clause. None) kept

-- each atom of the literals has a place
abbrev pub are_reserved : ℕ → List Lit → Bool
are_reserved reserved literals = list_all (λ l. nat_lt l.atom reserved) literals

-- each atom of the clause has a place, if there is one
abbrev pub is_reserved : ℕ → Option KeptClause → Bool
is_reserved reserved None = true
is_reserved reserved (Some clause) = are_reserved reserved clause.literals

-- each atom of a kept clause has a place
abbrev pub has_room_for : ℕ → Kept → Bool
has_room_for reserved kept = list_all (is_reserved reserved) kept

-- the reason of the entry is a kept clause that holds its literal, and whose other literals are false before
pub record IsForced (kept : Kept) (before : List Assigned) (entry : Assigned) : Type 0 where
  pub id : ClauseId
  pub reason : entry.reason ≡ Some id
  pub clause : KeptClause
  pub there : kept_at kept id.0 ≡ Some clause
  pub forces : leaves_only (held before) clause.literals entry.literal ≡ true
  pub level : entry.level ≡ current_level before

-- each entry is forced behind those before it
abbrev pub AreForced : Kept → List Assigned → List Assigned → Type 0
AreForced kept before [] = Unit {0}
AreForced kept before (entry ∷ entries) = IsForced kept before entry × AreForced kept (before ++ entry ∷ []) entries

-- the trail has grown by entries that kept clauses force
pub record GrowsBy (kept : Kept) (old new : Assignments) : Type 0 where
  pub reserved : new.reserved ≡ old.reserved
  pub added : List Assigned
  pub literals : new.literals ≡ old.literals ++ added
  pub forced : AreForced kept old.literals added

-- no kept clause is false, and none leaves one literal
pub record IsSettled (kept : Kept) (literals : List Lit) : Type 0 where
  pub none_false : (id : ℕ) (clause : KeptClause) → kept_at kept id ≡ Some clause
      → is_false_clause literals clause.literals ≡ false
  pub none_forces : (id : ℕ) (clause : KeptClause) → kept_at kept id ≡ Some clause → (l : Lit)
      → leaves_only literals clause.literals l ≡ false

-- the kept clause of the number is false
pub record IsConflict (kept : Kept) (literals : List Lit) (id : ℕ) : Type 0 where
  pub clause : KeptClause
  pub there : kept_at kept id ≡ Some clause
  pub is_false : is_false_clause literals clause.literals ≡ true

-- no kept clause is false where these literals are true
abbrev pub HasNoneFalse : Kept → List Lit → Type 0
HasNoneFalse kept literals = (id : ℕ) (clause : KeptClause) → kept_at kept id ≡ Some clause
    → is_false_clause literals clause.literals ≡ false

-- what an answer says
abbrev pub AnswersOf : Kept → List Lit → Propagated → Type 0
AnswersOf kept literals Done = IsSettled kept literals
AnswersOf kept literals (Conflict id) = IsConflict kept literals id.0
