-- Private: what holds between the turns of a search.
use Rattle.std.specs.Prelude.{◌≡◌, ℕ, ◌<◌, ◌≤◌, ◌⊎◌, Bool, true, false, nat_lt, nat_le, ◌||◌, if◌then◌else◌, List, [], ◌∷◌, ◌++◌, take, length, Option, Some, None, Result, Ok, Err}
use Rattle.std.specs.List.{list_all, slice_get}
use Rattle.sb_lit.specs.declared.clause.Lit.{Lit}
use Rattle.sb_lit.specs.Clauses.{is_among, is_same_literal, is_true_under, is_false_under, is_false_clause, leaves_only}
use Rattle.sb_lit.specs.declared.clause.ClauseId.{ClauseId}
use Rattle.sb_lit.specs.Kept.{KeptClause}
use Rattle.sb_trail.specs.declared.assigned.Assigned.{Assigned}
use Rattle.sb_trail.specs.Assignments.{held, value_of, current_level, up_to}
use Rattle.sb_clauses.specs.Propagation.{State, has_room_for, are_reserved}
use Rattle.sb_analyze.specs.Reasons.{AreReasoned, level_in}
use Rattle.sb_analyze.specs.Learning.{IsSettledBelow}
use Rattle.sb_analyze.specs.Cores.{AreAssumed}
use Rattle.sb_search.specs.Found.{has_value, are_true}
use Rattle.sb_search.specs.declared.stage.Next.{Next}
use Rattle.sb_search.specs.declared.stage.Next.TheVariants as next

-- each of the atoms has a place
abbrev pub have_places : ℕ → List ℕ → Bool
have_places reserved atoms = list_all (λ atom. nat_lt atom reserved) atoms

-- Each literal was decided or has its reason, and propagation came to its end on each level below the current one. The
-- decisions of the first levels are assumptions; where there are more levels all assumptions are true on those first
-- ones, and else the first assumptions of the list are true.
pub record IsSearching (wanted : List ℕ) (assumptions : List Lit) (levels next : ℕ) (search : State) : Type 0 where
  pub reasoned : AreReasoned search.kept [] search.trail.literals
  pub below : IsSettledBelow search.kept search.trail.literals
  pub room : has_room_for search.trail.reserved search.kept ≡ true
  pub places : have_places search.trail.reserved wanted ≡ true
  pub assumption_places : are_reserved search.trail.reserved assumptions ≡ true
  pub assumed : AreAssumed assumptions (up_to levels search.trail.literals)
  pub given : levels < current_level search.trail.literals
      → are_true (held (up_to levels search.trail.literals)) assumptions ≡ true
  pub first : current_level search.trail.literals ≤ levels
      → are_true (held search.trail.literals) (take next assumptions) ≡ true

-- atoms get places
pub record Widens (old new : State) : Type 0 where
  pub kept : new.kept ≡ old.kept
  pub literals : new.trail.literals ≡ old.trail.literals
  pub reserved : old.trail.reserved ≤ new.trail.reserved

-- a clause is kept, and its atoms get places
pub record IsKept (old new : State) (clause : KeptClause) (id : ClauseId) : Type 0 where
  pub number : id.0 ≡ length old.kept
  pub kept : new.kept ≡ old.kept ++ Some clause ∷ []
  pub literals : new.trail.literals ≡ old.trail.literals
  pub reserved : old.trail.reserved ≤ new.trail.reserved
  pub room : has_room_for new.trail.reserved new.kept ≡ true

-- an assumption that is not true, or none is left
abbrev pub IsNextAssumption : List Lit → List Lit → Option Lit → Type 0
IsNextAssumption held assumptions None = are_true held assumptions ≡ true
IsNextAssumption held assumptions (Some l) = (is_among assumptions l ≡ true) × (is_true_under held l ≡ false)

-- an atom that is wanted and has no value, or none is left
abbrev pub IsNextWanted : List ℕ → List Assigned → Option ℕ → Type 0
IsNextWanted wanted entries None = list_all (has_value entries) wanted ≡ true
IsNextWanted wanted entries (Some atom) =
    (value_of entries atom ≡ None) × ((at : ℕ) × (slice_get wanted at ≡ Some atom))

-- what is next
abbrev pub IsNext : List ℕ → List Lit → ℕ → State → Result Next Lit → Type 0
IsNext wanted assumptions levels search (Ok (next.Assume l)) = (current_level search.trail.literals ≤ levels)
    × (is_among assumptions l ≡ true) × (value_of search.trail.literals l.atom ≡ None)
    × (l.atom < search.trail.reserved)
IsNext wanted assumptions levels search (Ok (next.Free (Some atom))) =
    (value_of search.trail.literals atom ≡ None) × (atom < search.trail.reserved)
    × (are_true (held search.trail.literals) assumptions ≡ true)
IsNext wanted assumptions levels search (Ok (next.Free None)) =
    (list_all (has_value search.trail.literals) wanted ≡ true)
    × (are_true (held search.trail.literals) assumptions ≡ true)
IsNext wanted assumptions levels search (Err l) = (current_level search.trail.literals ≤ levels)
    × (is_among assumptions l ≡ true) × (is_false_under (held search.trail.literals) l ≡ true)

-- the level from which on the literal is false; where it is not, the number of entries, which no level is above
abbrev pub false_from : List Assigned → Lit → ℕ
false_from entries l = if is_false_under (held entries) l then level_in entries l else length entries

-- The level is the lowest one from which on all literals of the clause but this one are false: below it neither this
-- one nor another one is.
pub record IsSecond (entries : List Assigned) (clause : List Lit) (last : Lit) (level : ℕ) : Type 0 where
  pub there : is_among clause last ≡ true
  pub second : 0 < level → (l : Lit) × (is_among clause l ≡ true) × (is_same_literal l last ≡ false)
      × (level ≤ false_from entries l) × (level ≤ false_from entries last)
  pub others : list_all (λ l. is_same_literal l last || nat_le (false_from entries l) level) clause ≡ true

-- the clause is false, or leaves one literal
abbrev pub IsDue : List Lit → List Lit → Type 0
IsDue held clause = (is_false_clause held clause ≡ true) ⊎ ((l : Lit) × (leaves_only held clause l ≡ true))

-- On no level below this one the clause is false or leaves one literal, and if this one is below the current one, it is
-- or does so on it.
pub record IsLowest (entries : List Assigned) (clause : List Lit) (level : ℕ) : Type 0 where
  pub none_below : (n : ℕ) → n < level → IsDue (held (up_to n entries)) clause → ⊥
  pub due : level < current_level entries → IsDue (held (up_to level entries)) clause

-- the literal is this one
abbrev pub is_but : Option Lit → Lit → Bool
is_but None l = false
is_but (Some m) l = is_same_literal l m

-- of the best literal so far and the next one, the one that is false from the higher level on, but for this one
abbrev pub higher : List Assigned → Option Lit → Option Lit → Lit → Option Lit
higher entries but best l =
    if is_but but l then best
    else elim best [
      | None ↦ Some l
      | Some m ↦ if nat_le (false_from entries l) (false_from entries m) then Some m else Some l
    ]

-- a literal of those that are false from the highest level on, among those that are not this one; none where there is
-- no other
abbrev pub IsHighest : List Assigned → List Lit → Option Lit → Option Lit → Type 0
IsHighest entries clause but None = list_all (is_but but) clause ≡ true
IsHighest entries clause but (Some best) = (is_among clause best ≡ true) × (is_but but best ≡ false)
    × (list_all (λ l. is_but but l || nat_le (false_from entries l) (false_from entries best)) clause ≡ true)
