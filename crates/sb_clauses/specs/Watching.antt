-- Private: two literals of each clause are watched. A clause without two different literals is short, and both its
-- watched literals are the same.
use Rattle.std.specs.Prelude.{◌≡◌, ℕ, ◌+◌, ◌-◌, ◌*◌, ◌/◌, ◌%◌, ◌^◌, ◌<◌, ◌≤◌, true, false, Bool, ◌==◌, nat_lt, if◌then◌else◌, List, [], length, slice_index_or, Some}
use Rattle.std.specs.List.{list_all}
use Rattle.sb_lit.specs.declared.clause.Lit.{Lit}
use Rattle.sb_lit.specs.Clauses.{is_same_literal, is_among}
use Rattle.sb_lit.specs.Kept.{Kept, KeptClause, kept_at}
use Rattle.sb_clauses.specs.WatchLists.{WatchLists, times_in, times}

-- the list of those whose watched literal is this one; list 0 is for a walk, and list 1 for short clauses
abbrev pub list_of : Lit → ℕ
list_of l = 2 * l.atom + (if l.positive then 3 else 2)

-- the literal of a list
unfoldable pub literal_of : ℕ → Lit
literal_of list = record { atom = (list - 2) / 2; positive = list % 2 == 1 }

-- the number of the literal's list fits
abbrev pub is_small : Lit → Bool
is_small l = nat_lt l.atom (2 ^ 30)

-- what a read past the end of a clause gives
abbrev pub no_literal : Lit
no_literal = record { atom = 0; positive = false }

abbrev pub literal_at : List Lit → ℕ → Lit
literal_at clause place = slice_index_or clause place no_literal

-- both watched literals are the same
abbrev pub is_short : Lit → Lit → Bool
is_short own other = is_same_literal own other

-- the list in which the number of the clause stands, by its own literal and the other one
abbrev pub home : Lit → Lit → ℕ
home own other = if is_short own other then 1 else list_of own

-- how often a number with this home stands in a list
abbrev pub stands : ℕ → ℕ → ℕ
stands home list = if home == list then 1 else 0

-- the watched literals of a clause, where there are so many lists
pub record IsPlaced (lists : ℕ) (clause : List Lit) (own other : Lit) : Type 0 where
  pub inside : 0 < length clause → (is_among clause own ≡ true) × (is_among clause other ≡ true)
  pub bare : clause ≡ [] → (own ≡ no_literal) × (other ≡ no_literal)
  pub short : is_short own other ≡ true → list_all (λ l. is_same_literal l other) clause ≡ true
  -- each literal has a list, whose number fits
  pub small : list_all is_small clause ≡ true
  pub listed : list_all (λ l. nat_lt (list_of l) lists) clause ≡ true
  pub begun : 1 < lists

-- a clause of these literals is kept at the number
pub record HasClause (kept : Kept) (id : ℕ) (clause : List Lit) : Type 0 where
  pub found : KeptClause
  pub there : kept_at kept id ≡ Some found
  pub literals : found.literals ≡ clause

-- by the number of a clause, the list of the literal that it watches
abbrev pub code_at : List ℕ → ℕ → ℕ
code_at codes id = slice_index_or codes id 0

abbrev pub watched_at : List ℕ → ℕ → Lit
watched_at codes id = literal_of (code_at codes id)

-- the clauses with their own watched literals and the other ones, each in the list that is its home
pub record IsSide (kept : Kept) (own other : List ℕ) (all : WatchLists) : Type 0 where
  pub own_places : length kept ≤ length own
  pub other_places : length kept ≤ length other
  pub nodes : length kept ≤ all.nodes
  pub placed : (id : ℕ) (clause : List Lit) → HasClause kept id clause
      → IsPlaced (length all.lists) clause (watched_at own id) (watched_at other id)
  pub listed : (id : ℕ) (clause : List Lit) → HasClause kept id clause → (list : ℕ)
      → times_in id (slice_index_or all.lists list []) ≡ stands (home (watched_at own id) (watched_at other id)) list
  -- a number that is not given stands in no list
  pub fresh : (id : ℕ) → length kept ≤ id → times id all.lists ≡ 0

-- both watches of the kept clauses
pub record AreWatched (kept : Kept) (firsts : List ℕ) (first : WatchLists) (seconds : List ℕ) (second : WatchLists)
    : Type 0 where
  pub at_first : IsSide kept firsts seconds first
  pub at_second : IsSide kept seconds firsts second
