-- Private: what a clause comes to, seen from one of its two watched literals.
use Rattle.std.specs.Prelude.{◌≡◌, ℕ, ◌<◌, Bool, true, false, ◌||◌, List, length, slice_index_or, None}
use Rattle.sb_lit.specs.declared.clause.Lit.{Lit}
use Rattle.sb_lit.specs.Clauses.{is_same_literal, is_among, is_true_under, is_false_under, is_false_clause, leaves_only}
use Rattle.sb_trail.specs.declared.assigned.Assigned.{Assigned}
use Rattle.sb_trail.specs.Assignments.{held, value_of, IsConsistent}
use Rattle.sb_clauses.specs.declared.watch.Seen.{Seen}
use Rattle.sb_clauses.specs.declared.watch.Seen.TheVariants.{Holds, Moves, Forces, False}
use Rattle.sb_clauses.specs.Watching.{no_literal}

-- the literal is this one or false
abbrev pub is_or_false : List Lit → Lit → Lit → Bool
is_or_false literals l m = is_same_literal m l || is_false_under literals m

-- the literal at the place is not false, and not this one
pub record IsReplacement (literals clause : List Lit) (l : Lit) (place : ℕ) : Type 0 where
  pub inside : place < length clause
  pub is_new : is_or_false literals l (slice_index_or clause place no_literal) ≡ false

-- the other literal is left
pub record IsLeft (entries : List Assigned) (clause : List Lit) (other : Lit) (l : Lit) : Type 0 where
  pub inside : is_among clause other ≡ true
  pub there : l ≡ other
  pub forces : leaves_only (held entries) clause l ≡ true
  pub unassigned : value_of entries l.atom ≡ None

-- the other literal is true
pub record IsHeld (literals clause : List Lit) (other : Lit) : Type 0 where
  pub inside : is_among clause other ≡ true
  pub holds : is_true_under literals other ≡ true

pub record IsMove (literals clause : List Lit) (l : Lit) (place : ℕ) : Type 0 where
  pub replacement : IsReplacement literals clause l place
  pub consistent : IsConsistent literals

abbrev pub IsSeen : List Assigned → List Lit → Lit → Seen → Type 0
IsSeen entries clause other Holds = IsHeld (held entries) clause other
IsSeen entries clause other (Moves place) = IsMove (held entries) clause other place
IsSeen entries clause other (Forces l) = IsLeft entries clause other l
IsSeen entries clause other False = is_false_clause (held entries) clause ≡ true
