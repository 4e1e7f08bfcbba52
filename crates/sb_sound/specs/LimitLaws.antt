-- The limits of numbers in atoms.
use Rattle.std.specs.Prelude.{◌≡◌, ◌↔◌, ℕ, ℤ, pos, neg_ℤ, ◌≤ℤ◌, ◌^◌, true}
use Rattle.sb_lang.specs.Regex.{Regex}
use Rattle.sb_rulebook.specs.Atoms.{le_atom, is_well_formed}
use Rattle.sb_script.specs.Sums.{Variable}

-- the number is at most so far from 0
pub record IsWithin (limit : ℕ) (k : ℤ) : Type 0 where
  pub low : neg_ℤ (pos limit) ≤ℤ k
  pub high : k ≤ℤ pos limit

abbrev pub BoundsAreWithin : Type 0
BoundsAreWithin = (x : Variable) (k : ℤ) → (is_well_formed {R = Regex} (le_atom x k) ≡ true) ↔ IsWithin (2 ^ 32) k
