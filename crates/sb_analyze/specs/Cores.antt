-- Why assumptions can't all be true.
use Rattle.std.specs.Prelude.{◌≡◌, ℕ, ◌⊎◌, Bool, true, false, List, [], ◌∷◌, map, Option, Some, None}
use Rattle.sb_lit.specs.declared.clause.Lit.{Lit}
use Rattle.sb_lit.specs.declared.clause.ClauseId.{ClauseId}
use Rattle.sb_lit.specs.Clauses.{negation, is_among, are_among, is_false_under}
use Rattle.sb_lit.specs.Kept.{Kept, KeptClause, kept_at}
use Rattle.sb_trail.specs.declared.assigned.Assigned.{Assigned}
use Rattle.sb_trail.specs.Assignments.{held, reason_of}
use Rattle.sb_clauses.specs.Propagation.{IsConflict}
use Rattle.sb_analyze.specs.Learning.{IsLesson}
use Rattle.sb_analyze.specs.declared.learned.Learned.{Learned}
use Rattle.sb_analyze.specs.declared.cores.Core.{Core}
use Rattle.sb_analyze.specs.declared.cores.Core.TheVariants as core

-- each literal is the negation of an assumption
abbrev pub are_negated : List Lit → List Lit → Bool
are_negated assumptions ls = are_among ls (map negation assumptions)

-- a literal and its negation are assumptions
pub record HasBoth (assumptions : List Lit) : Type 0 where
  pub literal : Lit
  pub one : is_among assumptions literal ≡ true
  pub other : is_among assumptions (negation literal) ≡ true

-- the clause is the reason of an assumption's negation
pub record IsReasonOfFalse (entries : List Assigned) (assumptions : List Lit) (id : ClauseId) : Type 0 where
  pub assumption : Lit
  pub given : is_among assumptions assumption ≡ true
  pub is_false : is_false_under (held entries) assumption ≡ true
  pub reason : reason_of entries assumption.atom ≡ Some id

-- A kept clause is false, or is the reason of a false assumption; without a clause two assumptions contradict each
-- other.
abbrev pub IsFinal : Kept → List Assigned → List Lit → Option ClauseId → Type 0
IsFinal kept entries assumptions None = HasBoth assumptions
IsFinal kept entries assumptions (Some id) = IsConflict kept (held entries) id.0
    ⊎ IsReasonOfFalse entries assumptions id

-- every decision is an assumption
abbrev pub AreAssumed : List Lit → List Assigned → Type 0
AreAssumed assumptions [] = Unit {0}
AreAssumed assumptions (entry ∷ entries) = (entry.reason ≡ None → is_among assumptions entry.literal ≡ true)
    × AreAssumed assumptions entries

-- the kept clause has negated assumptions alone
pub record IsKeptCore (kept : Kept) (assumptions : List Lit) (id : ℕ) : Type 0 where
  pub clause : KeptClause
  pub there : kept_at kept id ≡ Some clause
  pub negated : are_negated assumptions clause.literals ≡ true

-- no kept clause has
abbrev pub HasNoKeptCore : Kept → List Lit → Type 0
HasNoKeptCore kept assumptions = (id : ℕ) (clause : KeptClause) → kept_at kept id ≡ Some clause
    → are_negated assumptions clause.literals ≡ false

pub record IsBothCore (kept : Kept) (assumptions : List Lit) (l : Lit) : Type 0 where
  pub no_kept : HasNoKeptCore kept assumptions
  pub one : is_among assumptions l ≡ true
  pub other : is_among assumptions (negation l) ≡ true

pub record IsNewCore (kept : Kept) (assumptions : List Lit) (lesson : Learned) : Type 0 where
  pub no_kept : HasNoKeptCore kept assumptions
  pub not_both : (l : Lit) → is_among assumptions l ≡ true → is_among assumptions (negation l) ≡ false
  pub negated : are_negated assumptions lesson.clause ≡ true
  pub is_lesson : IsLesson kept lesson.clause lesson.hints lesson.level

abbrev pub IsCore : Kept → List Lit → Core → Type 0
IsCore kept assumptions (core.Kept id) = IsKeptCore kept assumptions id.0
IsCore kept assumptions (core.Both l) = IsBothCore kept assumptions l
IsCore kept assumptions (core.New lesson) = IsNewCore kept assumptions lesson
