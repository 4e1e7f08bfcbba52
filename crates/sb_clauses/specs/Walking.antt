-- Private: a walk over one of the lists of watching clauses.
use Rattle.std.specs.Prelude.{◌≡◌, ◌≢◌, ◌⊎◌, ℕ, ◌+◌, ◌<◌, ◌≤◌, true, false, List, [], length, slice_index_or}
use Rattle.sb_lit.specs.declared.clause.Lit.{Lit}
use Rattle.sb_lit.specs.Clauses.{is_true_under, is_false_under}
use Rattle.sb_trail.specs.Assignments.{Assignments, held}
use Rattle.sb_lit.specs.Kept.{Kept}
use Rattle.sb_clauses.specs.declared.walk.Turn.{Turn}
use Rattle.sb_clauses.specs.declared.walk.Turn.TheVariants.{Goes, Ends, Stops}
use Rattle.sb_clauses.specs.Looking.{IsHeld}
use Rattle.sb_clauses.specs.WatchLists.{WatchLists, times_in, times}
use Rattle.sb_clauses.specs.Propagation.{has_room_for, GrowsBy, IsConflict}
use Rattle.sb_clauses.specs.Watching.{list_of, is_short, home, stands, IsPlaced, HasClause, watched_at}

-- what a walk works on: the clauses, their own watched literals, the other ones, the lists of the own ones, and the trail
pub record Walk : Type 0 where
  pub kept : Kept
  pub own : List ℕ
  pub other : List ℕ
  pub all : WatchLists
  pub trail : Assignments

-- the literals of a list are false
abbrev pub AreFalseOf : ℕ → List Lit → Type 0
AreFalseOf list literals = (l : Lit) → list_of l ≡ list → is_false_under literals l ≡ true

-- in the midst of a walk: the clauses of the list that were looked at stand in list 0, and their other literals are
-- true
pub record IsWalking (list : ℕ) (w : Walk) : Type 0 where
  pub begun : 0 < list
  pub inside : list < length w.all.lists
  pub own_places : length w.kept ≤ length w.own
  pub other_places : length w.kept ≤ length w.other
  pub nodes : length w.kept ≤ w.all.nodes
  pub placed : (id : ℕ) (clause : List Lit) → HasClause w.kept id clause
      → IsPlaced (length w.all.lists) clause (watched_at w.own id) (watched_at w.other id)
  pub elsewhere : (id : ℕ) (clause : List Lit) → HasClause w.kept id clause → (l : ℕ) → l ≢ 0 → l ≢ list
      → times_in id (slice_index_or w.all.lists l []) ≡ stands (home (watched_at w.own id) (watched_at w.other id)) l
  pub here : (id : ℕ) (clause : List Lit) → HasClause w.kept id clause
      → times_in id (slice_index_or w.all.lists 0 []) + times_in id (slice_index_or w.all.lists list [])
      ≡ stands (home (watched_at w.own id) (watched_at w.other id)) list
  pub holds : (id : ℕ) (clause : List Lit) → HasClause w.kept id clause
      → 0 < times_in id (slice_index_or w.all.lists 0 []) → IsHeld (held w.trail.literals) clause (watched_at w.other id)
  pub fresh : (id : ℕ) → length w.kept ≤ id → times id w.all.lists ≡ 0
  pub are_false : AreFalseOf list (held w.trail.literals)
  pub room : has_room_for w.trail.reserved w.kept ≡ true

-- the own watch has moved, from a literal that was not true to one that was not false
pub record IsAway (literals : List Lit) (old now other : Lit) : Type 0 where
  pub left : is_true_under literals old ≡ false
  pub came : is_false_under literals now ≡ false
  pub old_long : is_short old other ≡ false
  pub now_long : is_short now other ≡ false

-- the own watch is as it was or has moved
abbrev pub IsMoved : List Lit → Lit → Lit → Lit → Type 0
IsMoved literals old now other = (now ≡ old) ⊎ IsAway literals old now other

-- the trail has grown, and own watches have moved
pub record Advances (old now : Walk) : Type 0 where
  pub grows : GrowsBy old.kept old.trail now.trail
  pub len : length now.own ≡ length old.own
  pub moved : (id : ℕ) (clause : List Lit) → HasClause old.kept id clause
      → IsMoved (held old.trail.literals) (watched_at old.own id) (watched_at now.own id) (watched_at old.other id)

-- the other watched literal of each clause of the list is true
abbrev pub AreHeld : ℕ → Walk → Type 0
AreHeld list w = (id : ℕ) (clause : List Lit) → HasClause w.kept id clause
    → home (watched_at w.own id) (watched_at w.other id) ≡ list
    → IsHeld (held w.trail.literals) clause (watched_at w.other id)

-- what one turn of a walk comes to
abbrev pub TurnsOut : ℕ → Walk → Walk → Turn → Type 0
TurnsOut list old now Goes =
    length (slice_index_or now.all.lists list []) < length (slice_index_or old.all.lists list [])
TurnsOut list old now Ends = slice_index_or now.all.lists list [] ≡ []
TurnsOut list old now (Stops id) = IsConflict now.kept (held now.trail.literals) id.0

pub record IsTurn (list : ℕ) (old now : Walk) (turn : Turn) : Type 0 where
  pub walking : IsWalking list now
  pub advances : Advances old now
  pub out : TurnsOut list old now turn
