-- Sets of characters as lists of ranges (SMT-LIB theory of Unicode Strings: a character is a number
-- from 0 to 0x2ffff).
use Rattle.std.specs.Prelude.{◌≡◌, ◌≢◌, ℕ, ◌+◌, ◌-◌, ◌<◌, ◌≤◌, Bool, true, false, ◌&&◌, ◌||◌, nat_le, List, [], ◌∷◌, Contains}
use Rattle.std.specs.List.Sorted.{IsStrictlyIncreasing}
use Rattle.sb_word.specs.Words.{is_character}

-- a range with both its ends
abbrev pub Range : Type 0
Range = ℕ × ℕ

-- the number lies in the range
unfoldable pub in_range : Range → ℕ → Bool
in_range r c = nat_le r.0 c && nat_le c r.1

-- the number is in the set: it lies in one of the ranges
unfoldable pub in_ranges : List Range → ℕ → Bool
in_ranges [] c = false
in_ranges (r ∷ rs) c = in_range r c || in_ranges rs c

-- the range starts at the number or later, has a member, and holds characters alone
abbrev pub fits_from : ℕ → Range → Bool
fits_from n r = nat_le n r.0 && (nat_le r.0 r.1 && is_character r.1)

-- each range fits, the first from the number on and each other after a gap
unfoldable pub rises_from : ℕ → List Range → Bool
rises_from n [] = true
rises_from n (r ∷ rs) = fits_from n r && rises_from (r.1 + 2) rs

-- the ranges hold characters alone; they ascend, are disjoint, and no two are adjacent
abbrev pub IsCanonical : List Range → Type 0
IsCanonical rs = rises_from 0 rs ≡ true

-- the set has no member
abbrev pub IsEmptySet : List Range → Type 0
IsEmptySet rs = (c : ℕ) → in_ranges rs c ≡ false

-- the number is a member, and no member is less
pub record IsLeast (rs : List Range) (m : ℕ) : Type 0 where
  pub member : in_ranges rs m ≡ true
  pub below : (c : ℕ) → in_ranges rs c ≡ true → m ≤ c

-- the character is above 0, and it and the one before it are not both in the set or both outside
pub record IsCut (rs : List Range) (c : ℕ) : Type 0 where
  pub positive : 0 < c
  pub character : is_character c ≡ true
  pub differs : in_ranges rs c ≢ in_ranges rs (c - 1)

-- the cuts of the set, each once, ascending
pub record AreCuts (rs : List Range) (cuts : List ℕ) : Type 0 where
  pub ascending : IsStrictlyIncreasing cuts
  pub sound : (c : ℕ) → Contains cuts c → IsCut rs c
  pub complete : (c : ℕ) → IsCut rs c → Contains cuts c
