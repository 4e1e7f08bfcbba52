-- Private: watch lists: lists of clause numbers, of which each stands in one list at most.
use Rattle.std.specs.Prelude.{◌≡◌, ◌≢◌, ℕ, ◌+◌, zero, suc, ◌<◌, ◌≤◌, ◌==◌, List, [], ◌∷◌, map, length, count_by, slice_index_or, Option, Some, None}
use Rattle.std.specs.List.{sum_by}

-- the numbers below `nodes` may stand in a list
pub record WatchLists : Type 0 where
  pub nodes : ℕ
  pub lists : List (List ℕ)

-- how often a number stands in a list,
abbrev pub times_in : ℕ → List ℕ → ℕ
times_in n list = count_by (λ m. m == n) list

-- and in the lists together
abbrev pub times : ℕ → List (List ℕ) → ℕ
times n lists = sum_by (times_in n) lists

-- each number stands in one list at most, and there once; it is below `nodes`
pub record AreApart (all : WatchLists) : Type 0 where
  pub once : (n : ℕ) → times n all.lists ≤ 1
  pub below : (n : ℕ) → all.nodes ≤ n → times n all.lists ≡ 0

-- the list that begins at a number, where `next` has the one behind each; no longer than the first number
unfoldable pub list_from : List (Option ℕ) → ℕ → Option ℕ → List ℕ
list_from next zero start = []
list_from next (suc most) None = []
list_from next (suc most) (Some n) = n ∷ list_from next most (slice_index_or next n None)

abbrev pub lists_from : List (Option ℕ) → List (Option ℕ) → List (List ℕ)
lists_from heads next = map (list_from next (length next)) heads

-- the list begins at the number, and ends
abbrev pub IsListFrom : List (Option ℕ) → Option ℕ → List ℕ → Type 0
IsListFrom next start [] = start ≡ None
IsListFrom next start (n ∷ ns) = (start ≡ Some n) × IsListFrom next (slice_index_or next n None) ns

-- the heads and the numbers behind each are these lists
pub record AreListsOf (heads next : List (Option ℕ)) (lists : List (List ℕ)) : Type 0 where
  pub len : length lists ≡ length heads
  pub each : (at : ℕ) → at < length heads → IsListFrom next (slice_index_or heads at None) (slice_index_or lists at [])
  pub apart : AreApart (record { nodes = length next; lists = lists })

-- all numbers of a list have come to another one
pub record IsPoured (from to : ℕ) (old new : WatchLists) : Type 0 where
  pub nodes : new.nodes ≡ old.nodes
  pub len : length new.lists ≡ length old.lists
  pub empty : slice_index_or new.lists from [] ≡ []
  pub counts : (n : ℕ) → times_in n (slice_index_or new.lists to [])
      ≡ times_in n (slice_index_or old.lists to []) + times_in n (slice_index_or old.lists from [])
  pub others : (list : ℕ) → list ≢ from → list ≢ to
      → slice_index_or new.lists list [] ≡ slice_index_or old.lists list []
  pub same_times : (n : ℕ) → times n new.lists ≡ times n old.lists
