-- Private: the kept clauses by level, and which of them go where levels are left.
use Rattle.std.specs.Prelude.{◌≡◌, ℕ, nat_lt, Bool, true, false, ◌&&◌, ◌==◌, if◌then◌else◌, List, ◌∷◌, map, slice_set, Option, Some, None}
use Rattle.std.specs.List.{list_any}
use Rattle.std.specs.List.Sorted.{IsPermutation}
use Rattle.std.specs.declared.cmp.Ordering.{Ordering}
use Rattle.std.specs.Ordering.{nat_cmp, ordering_then}
use Rattle.std.specs.BinaryHeap.{IsHeap}
use Rattle.sb_lit.specs.Kept.{Kept, KeptClause, kept_at}

-- a clause of the level goes where levels are left down to another one, and each clause does where all are
abbrev pub is_left : Option ℕ → ℕ → Bool
is_left None level = true
is_left (Some last) level = nat_lt last level

-- there is a clause that goes
abbrev pub goes : Option ℕ → Option KeptClause → Bool
goes down_to None = false
goes down_to (Some clause) = is_left down_to clause.level

abbrev pub stays_down_to : Option ℕ → Option KeptClause → Option KeptClause
stays_down_to down_to place = if goes down_to place then None else place

-- those that stay
abbrev pub kept_down_to : Option ℕ → Kept → Kept
kept_down_to down_to kept = map (stays_down_to down_to) kept

-- without the clause of the number, if it goes
abbrev pub without : Option ℕ → ℕ → Kept → Kept
without down_to number kept = if goes down_to (kept_at kept number) then slice_set kept number None else kept

-- pairs of a level and a number are ordered by level first
abbrev pub scope_order : ℕ × ℕ → ℕ × ℕ → Ordering
scope_order x y = ordering_then (nat_cmp x.0 y.0) (nat_cmp x.1 y.1)

-- the pair is this one
abbrev pub is_pair : ℕ → ℕ → ℕ × ℕ → Bool
is_pair level id pair = (pair.0 == level) && (pair.1 == id)

-- each clause has its pair in the heap
pub record AreScoped (kept : Kept) (scoped : List (ℕ × ℕ)) : Type 0 where
  pub ordered : IsHeap scope_order scoped
  pub all : (id : ℕ) (clause : KeptClause) → kept_at kept id ≡ Some clause
      → list_any (is_pair clause.level id) scoped ≡ true

-- a pair went, of a level that is left
pub record IsPopped (down_to : Option ℕ) (old new : List (ℕ × ℕ)) (number : ℕ) : Type 0 where
  pub highest : ℕ
  pub is_left : is_left down_to highest ≡ true
  pub others : IsPermutation old ((highest, number) ∷ new)
  pub ordered : IsHeap scope_order new

-- and where none did, no level is left
abbrev pub PopsLeft : Option ℕ → List (ℕ × ℕ) → List (ℕ × ℕ) → Option ℕ → Type 0
PopsLeft down_to old new None = (list_any (λ pair. is_left down_to pair.0) old ≡ false) × (new ≡ old)
PopsLeft down_to old new (Some number) = IsPopped down_to old new number
