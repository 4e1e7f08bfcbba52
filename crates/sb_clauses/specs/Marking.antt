-- Private: the levels at whose end propagation came to its end, and the propagation queue head.
use Rattle.std.specs.Prelude.{◌≡◌, ◌⊎◌, ℕ, ◌<◌, ◌≤◌, List, [], ◌∷◌, ◌++◌, take, length, slice_index_or}
use Rattle.sb_lit.specs.declared.clause.Lit.{Lit}
use Rattle.sb_lit.specs.Kept.{Kept}
use Rattle.sb_trail.specs.declared.assigned.Assigned.{Assigned}
use Rattle.sb_trail.specs.Assignments.{held, up_to}
use Rattle.sb_clauses.specs.WatchLists.{WatchLists}
use Rattle.sb_clauses.specs.Watching.{AreWatched}
use Rattle.sb_clauses.specs.Settling.{AreFine}

abbrev pub mark_at : List ℕ → ℕ → ℕ
mark_at marks at = slice_index_or marks at 0

abbrev pub AreAscending : List ℕ → Type 0
AreAscending marks = (i j : ℕ) → i ≤ j → j < length marks → mark_at marks i ≤ mark_at marks j

abbrev pub AreBelow : List ℕ → ℕ → Type 0
AreBelow marks level = (i : ℕ) → i < length marks → mark_at marks i < level

-- the literals of levels up to this one
abbrev pub held_up_to : ℕ → List Assigned → List Lit
held_up_to level entries = held (up_to level entries)

-- at the end of each marked level all clauses are fine
abbrev pub AreMarked : Kept → List Assigned → List ℕ → List ℕ → List ℕ → Type 0
AreMarked kept entries marks firsts seconds = (i : ℕ) → i < length marks
    → AreFine kept (held_up_to (mark_at marks i) entries) (held_up_to (mark_at marks i) entries) firsts seconds

-- some were forgotten, the newest ones first
pub record IsFront (old new : List ℕ) : Type 0 where
  pub count : ℕ
  pub within : count ≤ length old
  pub is_front : new ≡ take count old

-- the level was marked, or there was no room
abbrev pub AreNoted : ℕ → List ℕ → List ℕ → Type 0
AreNoted level old new = (new ≡ old) ⊎ (new ≡ old ++ level ∷ [])

-- so many entries are those of levels up to a mark
pub record IsEndOf (marks : List ℕ) (entries : List Assigned) (count : ℕ) : Type 0 where
  pub within : count ≤ length entries
  pub at : ℕ
  pub inside : at < length marks
  pub end : take count entries ≡ up_to (mark_at marks at) entries

-- propagation has gone over so many entries, and all clauses are fine up to there
pub record IsHead (kept : Kept) (entries : List Assigned) (firsts seconds : List ℕ) (head : ℕ) : Type 0 where
  pub inside : head ≤ length entries
  pub fine : AreFine kept (take head (held entries)) (held entries) firsts seconds

-- what is kept beside the clauses, where the marks are below a level
pub record AreReady (kept : Kept) (firsts : List ℕ) (first : WatchLists) (seconds : List ℕ) (second : WatchLists)
    (entries : List Assigned) (marks : List ℕ) (level : ℕ) : Type 0 where
  pub watched : AreWatched kept firsts first seconds second
  pub ascending : AreAscending marks
  pub below : AreBelow marks level
  pub marked : AreMarked kept entries marks firsts seconds
