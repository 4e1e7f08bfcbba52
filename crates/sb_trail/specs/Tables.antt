-- Private: tables of a trail by atom.
use Rattle.std.specs.Prelude.{◌≡◌, ℕ, ◌+◌, ◌-◌, ◌^◌, ◌<◌, ◌≤◌, ◌==◌, Bool, List, length, slice_get, slice_index_or, count_by, Option, Some, None, option_map}
use Rattle.sb_trail.specs.declared.assigned.Assigned.{Assigned}
use Rattle.sb_trail.specs.Assignments.{entry_of, IsTrail}

-- the table has at each atom what f gives of its entry
abbrev pub Tabulates : {T : Type 0} → (Assigned → T) → List Assigned → List (Option T) → Type 0
Tabulates f entries table = (atom : ℕ) → atom < length table
    → slice_index_or table atom None ≡ option_map f (entry_of entries atom)

-- the number is one more than the place of the entry, or 0 where there is none
abbrev pub IsPlace : List Assigned → ℕ → Option Assigned → Type 0
IsPlace entries number None = number ≡ 0
IsPlace entries number (Some entry) = (0 < number) × (number ≤ length entries)
    × (slice_get entries (number - 1) ≡ Some entry)

-- the table has at each atom the place of its entry
abbrev pub Locates : List Assigned → List ℕ → Type 0
Locates entries table = (atom : ℕ) → atom < length table
    → IsPlace entries (slice_index_or table atom 0) (entry_of entries atom)

-- the tables agree with the entries, and there is room for the entries of all atoms
pub record AreTables (entries : List Assigned) (room : ℕ) (values : List (Option Bool)) (places : List ℕ)
    : Type 0 where
  pub trail : IsTrail (record { reserved = length places; literals = entries })
  pub values_agree : Tabulates (λ entry. entry.literal.positive) entries values
  pub located : Locates entries places
  pub covered : length places ≤ length values
  pub counted : length entries + count_by (λ number. number == 0) places ≡ length places
  pub fits : length places ≤ room
  pub small : length places < 2 ^ 31
