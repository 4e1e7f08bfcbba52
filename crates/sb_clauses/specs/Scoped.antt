-- Private: the kept clauses above level 0, in a heap that has the one of the highest level first.
use Rattle.std.specs.Prelude.{◌≡◌, ℕ, ◌<◌, ◌≤◌, Bool, true, ◌&&◌, ◌==◌, if◌then◌else◌, nat_le, List, ◌∷◌, length, slice_set, Option, Some, None}
use Rattle.std.specs.List.{list_all, list_any}
use Rattle.std.specs.List.Sorted.{IsPermutation}
use Rattle.std.specs.declared.cmp.Ordering.{Ordering}
use Rattle.std.specs.Ordering.{nat_cmp, ordering_then}
use Rattle.std.specs.BinaryHeap.{IsHeap}
use Rattle.sb_lit.specs.Kept.{Kept, KeptClause, kept_at, is_above, kept_up_to}

-- pairs of a level and a number are ordered by level first
abbrev pub scope_order : ℕ × ℕ → ℕ × ℕ → Ordering
scope_order x y = ordering_then (nat_cmp x.0 y.0) (nat_cmp x.1 y.1)

-- the pair is this one
abbrev pub is_pair : ℕ → ℕ → ℕ × ℕ → Bool
is_pair level id pair = (pair.0 == level) && (pair.1 == id)

-- each clause above level 0 has its pair in the heap
pub record AreScoped (kept : Kept) (scoped : List (ℕ × ℕ)) : Type 0 where
  pub ordered : IsHeap scope_order scoped
  pub all : (id : ℕ) (clause : KeptClause) → kept_at kept id ≡ Some clause → 0 < clause.level
      → list_any (is_pair clause.level id) scoped ≡ true

-- the places before this one are there, and empty
pub record AreEmptyBefore (place : ℕ) (kept : Kept) : Type 0 where
  pub inside : place ≤ length kept
  pub empty : (id : ℕ) → id < place → kept_at kept id ≡ None

-- the pair of the highest level went, which is above this one, or none is
pub record IsPopped (level : ℕ) (old new : List (ℕ × ℕ)) (number : ℕ) : Type 0 where
  pub highest : ℕ
  pub above : level < highest
  pub others : IsPermutation old ((highest, number) ∷ new)
  pub ordered : IsHeap scope_order new

abbrev pub PopsAbove : ℕ → List (ℕ × ℕ) → List (ℕ × ℕ) → Option ℕ → Type 0
PopsAbove level old new None = (list_all (λ pair. nat_le pair.0 level) old ≡ true) × (new ≡ old)
PopsAbove level old new (Some number) = IsPopped level old new number

-- without the clause of the number, if it is above the level
abbrev pub without_above : ℕ → ℕ → Kept → Kept
without_above level number kept = if is_above (kept_at kept number) level then slice_set kept number None else kept

-- a pair went, and what is kept up to the level stays
pub record IsScopedTurn (level : ℕ) (old new : Kept) (scoped now : List (ℕ × ℕ)) : Type 0 where
  pub stays : AreScoped new now
  pub same : kept_up_to level new ≡ kept_up_to level old
  pub fewer : length now < length scoped
