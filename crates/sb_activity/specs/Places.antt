-- Private: a heap of atoms, and the place of each.
use Rattle.std.specs.Prelude.{◌≡◌, ℕ, ◌<◌, ◌≤◌, ◌^◌, List, length, slice_index_or, slice_set}

-- the table has, at each number that stands in the list, its place
abbrev pub Undoes : List ℕ → List ℕ → Type 0
Undoes numbers table = (at : ℕ) → at < length numbers
    → (slice_index_or numbers at 0 < length table) × (slice_index_or table (slice_index_or numbers at 0) 0 ≡ at)

-- each atom stands in the heap once, at its place
pub record AreInverse (heap places : List ℕ) : Type 0 where
  pub placed : Undoes heap places
  pub found : Undoes places heap
  pub even : length heap ≡ length places
  pub small : length places < 2 ^ 32

-- the heap with two places changed for each other,
abbrev pub heap_swapped : List ℕ → ℕ → ℕ → List ℕ
heap_swapped heap one other =
    slice_set (slice_set heap one (slice_index_or heap other 0)) other (slice_index_or heap one 0)

-- and the places then
abbrev pub places_swapped : List ℕ → List ℕ → ℕ → ℕ → List ℕ
places_swapped heap places one other =
    slice_set (slice_set places (slice_index_or heap one 0) other) (slice_index_or heap other 0) one

-- the heap holds all atoms that have a place; the first of it wait
pub record IsOrder (heap places : List ℕ) (waiting : ℕ) : Type 0 where
  pub inverse : AreInverse heap places
  pub within : waiting ≤ length heap
