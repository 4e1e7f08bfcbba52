-- Private: a number that gets its clause.
use Rattle.std.specs.Prelude.{◌≡◌, ℕ, ◌<◌, ◌≤◌, true, nat_lt, List, [], length, slice_index_or}
use Rattle.std.specs.List.{list_all}
use Rattle.sb_lit.specs.declared.clause.Lit.{Lit}
use Rattle.sb_clauses.specs.WatchLists.{WatchLists, times}
use Rattle.sb_clauses.specs.Watching.{list_of, is_small, code_at}

-- with room for more, and otherwise the same
pub record IsRoomier (old_places : List ℕ) (old : WatchLists) (new_places : List ℕ) (new : WatchLists) : Type 0 where
  pub more_places : length old_places ≤ length new_places
  pub same_places : (id : ℕ) → id < length old_places → code_at new_places id ≡ code_at old_places id
  pub more_nodes : old.nodes ≤ new.nodes
  pub more_lists : length old.lists ≤ length new.lists
  pub same_lists : (list : ℕ) → slice_index_or new.lists list [] ≡ slice_index_or old.lists list []
  pub same_times : (id : ℕ) → times id new.lists ≡ times id old.lists

-- there is room for the numbers below `nodes` and for so many lists
pub record HasRoom (nodes lists : ℕ) (places : List ℕ) (all : WatchLists) : Type 0 where
  pub enough_places : nodes ≤ length places
  pub enough_nodes : nodes ≤ all.nodes
  pub enough_lists : lists ≤ length all.lists

-- there are lists for the literals
pub record AreEnough (clause : List Lit) (lists : ℕ) : Type 0 where
  pub begun : 1 < lists
  pub small : list_all is_small clause ≡ true
  pub listed : list_all (λ l. nat_lt (list_of l) lists) clause ≡ true
