-- Private: where a list of ranges that grows at its end goes on.
use Rattle.std.specs.Prelude.{◌≡◌, ℕ, ◌≤◌, ◌||◌, true, List, [], ◌∷◌}
use Rattle.sb_class.specs.Ranges.{Range, in_range, in_ranges, rises_from, IsCanonical}

-- the start of the last range, or the number where there is none
unfoldable pub last_start_or : ℕ → List Range → ℕ
last_start_or n [] = n
last_start_or n (r ∷ rs) = last_start_or r.0 rs

-- the rest is canonical, and starts no earlier than the last of these
abbrev pub StartsAfter : List Range → List Range → Type 0
StartsAfter rs rest = rises_from (last_start_or 0 rs) rest ≡ true

-- the new list is canonical, has the members of the old one and of the range, and its last range starts no later than
-- the range
pub record IsPushed (old new : List Range) (r : Range) : Type 0 where
  pub canonical : IsCanonical new
  pub members : (c : ℕ) → in_ranges new c ≡ (in_ranges old c || in_range r c)
  pub last : last_start_or 0 new ≤ r.0
