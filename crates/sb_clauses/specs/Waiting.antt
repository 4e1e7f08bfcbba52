-- Private: clauses that are kept and not yet listed.
use Rattle.std.specs.Prelude.{◌≡◌, ◌⊎◌, ℕ, ◌+◌, ◌<◌, ◌≤◌, Bool, true, false, ◌||◌, List, [], length, take, Option, Some, None, IfSome}
use Rattle.std.specs.List.{list_all}
use Rattle.sb_lit.specs.declared.clause.Lit.{Lit}
use Rattle.sb_lit.specs.Clauses.{is_same_literal, is_among, is_false_under, is_false_clause}
use Rattle.sb_lit.specs.Kept.{Kept}
use Rattle.sb_trail.specs.declared.assigned.Assigned.{Assigned}
use Rattle.sb_trail.specs.Assignments.{held, level_of, current_level, IsConsistent}
use Rattle.sb_clauses.specs.declared.place.Arrival.{Arrival}
use Rattle.sb_clauses.specs.declared.place.Arrival.TheVariants.{Stays, Forces, False}
use Rattle.sb_clauses.specs.WatchLists.{WatchLists}
use Rattle.sb_clauses.specs.Watching.{no_literal, literal_at, is_short, HasClause}
use Rattle.sb_clauses.specs.Looking.{is_or_false, IsHeld, IsLeft}
use Rattle.sb_clauses.specs.Adding.{AreEnough}
use Rattle.sb_clauses.specs.Marking.{mark_at, held_up_to, IsHead, AreReady}

-- the literal is this one, if there is one
abbrev pub is_the : Option Lit → Lit → Bool
is_the None m = false
is_the (Some l) m = is_same_literal m l

-- the place has another literal
pub record IsOther (clause : List Lit) (avoided : Option Lit) (place : ℕ) : Type 0 where
  pub inside : place < length clause
  pub other : is_the avoided (literal_at clause place) ≡ false

-- two literals to watch, the same only where the clause has no other one
pub record AreWatchable (clause : List Lit) (own other : Lit) : Type 0 where
  pub inside : 0 < length clause → (is_among clause own ≡ true) × (is_among clause other ≡ true)
  pub bare : clause ≡ [] → (own ≡ no_literal) × (other ≡ no_literal)
  pub short : is_short own other ≡ true → list_all (λ l. is_same_literal l other) clause ≡ true

-- there is room to list the clauses
pub record HaveRoom (kept : Kept) (firsts : List ℕ) (first : WatchLists) (seconds : List ℕ) (second : WatchLists)
    : Type 0 where
  pub first_places : length kept ≤ length firsts
  pub second_places : length kept ≤ length seconds
  pub first_nodes : length kept ≤ first.nodes
  pub second_nodes : length kept ≤ second.nodes
  pub first_lists : (id : ℕ) (clause : List Lit) → HasClause kept id clause → AreEnough clause (length first.lists)
  pub second_lists : (id : ℕ) (clause : List Lit) → HasClause kept id clause → AreEnough clause (length second.lists)

-- both literals differ, and none of them is false
pub record AreOpen (literals : List Lit) (own other : Lit) : Type 0 where
  pub long : is_short own other ≡ false
  pub own_open : is_false_under literals own ≡ false
  pub other_open : is_false_under literals other ≡ false

-- up to each marked level both literals differ, and none of them is false
abbrev pub AreLate : List Assigned → List ℕ → Lit → Lit → Type 0
AreLate entries marks own other = (i : ℕ) → i < length marks
    → AreOpen (held_up_to (mark_at marks i) entries) own other

-- a false literal has the level at which it became false, or 0
abbrev pub HasRank : List Assigned → Lit → ℕ → Type 0
HasRank entries l rank = is_false_under (held entries) l ≡ true → (rank ≡ 0) ⊎ (level_of entries l.atom ≡ Some rank)

-- the place has another literal, which is false only where all others are
pub record IsBest (literals clause : List Lit) (avoided : Option Lit) (place : ℕ) : Type 0 where
  pub other : IsOther clause avoided place
  pub best : is_false_under literals (literal_at clause place) ≡ true
      → list_all (λ l. is_the avoided l || is_false_under literals l) clause ≡ true

-- the first literal is false only where all are, and the second one only where all but that one are
pub record AreBest (literals clause : List Lit) (own other : Lit) : Type 0 where
  pub top : is_false_under literals own ≡ true → is_false_clause literals clause ≡ true
  pub next : is_false_under literals other ≡ true → list_all (is_or_false literals own) clause ≡ true

-- the clause is fine as it is
pub record IsStaying (literals clause : List Lit) (own other : Lit) : Type 0 where
  pub consistent : IsConsistent literals
  pub stays : IsHeld literals clause own ⊎ AreOpen literals own other

-- what a new clause comes to
abbrev pub IsArrival : List Assigned → List Lit → Lit → Lit → Arrival → Type 0
IsArrival entries clause own other Stays = IsStaying (held entries) clause own other
IsArrival entries clause own other (Forces l) = IsLeft entries clause own l
IsArrival entries clause own other False = is_false_clause (held entries) clause ≡ true

-- the first clauses are listed, and there is room for the others
pub record AreStored (kept : Kept) (firsts : List ℕ) (first : WatchLists) (seconds : List ℕ) (second : WatchLists)
    (entries : List Assigned) (marks : List ℕ) (head : Option ℕ) (listed : ℕ) : Type 0 where
  pub ready : AreReady (take listed kept) firsts first seconds second entries marks (current_level entries + 1)
  pub begins : IfSome head (IsHead (take listed kept) entries firsts seconds)
  pub room : HaveRoom kept firsts first seconds second
  pub within : listed ≤ length kept
