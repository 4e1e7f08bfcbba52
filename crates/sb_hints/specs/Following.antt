-- Private: hints that are followed one by one.
use Rattle.std.specs.Prelude.{◌≡◌, ℕ, Bool, true, if◌then◌else◌, List, [], ◌∷◌, map, Option, Some, None, is_some}
use Rattle.std.specs.Ordering.{is_lt}
use Rattle.sb_lit.specs.declared.clause.Lit.{Lit}
use Rattle.sb_lit.specs.Clauses.{negation, is_same_literal, literal_order, is_among}
use Rattle.sb_lit.specs.Kept.{KeptClause, Kept, kept_at}
use Rattle.sb_lit.specs.Hints.{Finding, falsified, forces, idle, Course, ends_false, stays_open, has_idle_hint, course}
use Rattle.sb_hints.specs.declared.judge.Finding.{Finding as Found}
use Rattle.sb_hints.specs.declared.judge.Finding.TheVariants.{Falsified, Forces, Idle}
use Rattle.sb_hints.specs.declared.judge.Course.{Course as Followed}
use Rattle.sb_hints.specs.declared.judge.Course.TheVariants.{EndsFalse, StaysOpen, HasIdleHint}

-- the test says which literals are in the list
pub record IsSetOf (literals : List Lit) (has : Lit → Bool) : Type 0 where
  pub same : (l : Lit) → has l ≡ is_among literals l

-- the clause of a number, one without literals where it is not kept
abbrev pub clause_of : Option KeptClause → KeptClause
clause_of None = record { literals = []; level = 0 }
clause_of (Some clause) = clause

abbrev pub clause_at : Kept → ℕ → KeptClause
clause_at kept id = clause_of (kept_at kept id)

abbrev pub clauses_at : Kept → List ℕ → List KeptClause
clauses_at kept ids = map (clause_at kept) ids

abbrev pub is_known : Kept → ℕ → Bool
is_known kept id = is_some (kept_at kept id)

-- the literal comes behind the one before it
abbrev pub rises_to : Option Lit → Lit → Bool
rises_to None literal = true
rises_to (Some last) literal = is_lt (literal_order last literal)

abbrev pub as_finding : Found → Finding
as_finding Falsified = falsified
as_finding (Forces l) = forces l
as_finding Idle = idle

abbrev pub as_course : Followed → Course
as_course EndsFalse = ends_false
as_course StaysOpen = stays_open
as_course HasIdleHint = has_idle_hint

-- what a clause gives with one literal more that is not false
abbrev pub with_open : (Lit → Bool) → Finding → Lit → Finding
with_open has falsified l = if has l then idle else forces l
with_open has (forces m) l = if is_same_literal m l then forces m else idle
with_open has idle l = idle

-- what a clause gives with one literal more
abbrev pub with_literal : (Lit → Bool) → Finding → Lit → Finding
with_literal has found l = if has (negation l) then found else with_open has found l

-- what hints give with more of them
abbrev pub course_after : Course → List Lit → List KeptClause → Course
course_after stays_open held clauses = course held clauses
course_after ends_false held [] = ends_false
course_after ends_false held (clause ∷ clauses) = has_idle_hint
course_after has_idle_hint held clauses = has_idle_hint

-- one hint more, and the literals that are held then
pub record GoesOn (before : Course) (held literals : List Lit) (after : Course) (has : Lit → Bool) : Type 0 where
  pub later : List Lit
  pub set : IsSetOf later has
  pub same : (level : ℕ) (clauses : List KeptClause)
      → course_after before held ((record { literals = literals; level = level }) ∷ clauses)
      ≡ course_after after later clauses
