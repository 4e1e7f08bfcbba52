-- Private: entries of a trail that are taken off from its end, and rows of literals.
use Rattle.std.specs.Prelude.{◌≡◌, ℕ, Bool, false, nat_eq, nat_lt, if◌then◌else◌, List, [], ◌∷◌, ◌++◌}
use Rattle.sb_theory.specs.Words.{Assigned, Lit, current_level, up_to}
use Rattle.sb_theory.specs.Memberships.{row_at}

-- the last entry's level is above this one
abbrev pub is_above : ℕ → List Assigned → Bool
is_above level entries = nat_lt level (current_level entries)

-- The entries of levels up to this one are left, which are the first ones.
pub record IsCut (level : ℕ) (old new : List Assigned) : Type 0 where
  pub is : new ≡ up_to level old
  pub more : List Assigned
  pub front : old ≡ new ++ more

-- one literal more stands in the row of a constant
abbrev pub IsAdded : List (List Lit) → List (List Lit) → ℕ → Lit → Type 0
IsAdded old new x l = (y : ℕ) → row_at new y ≡ (if nat_eq x y then row_at old y ++ l ∷ [] else row_at old y)

-- The row of a constant has lost its last literal.
pub record IsDropped (old new : List (List Lit)) (x : ℕ) : Type 0 where
  pub last : (ls : List Lit) (l : Lit) → row_at old x ≡ ls ++ l ∷ [] → row_at new x ≡ ls
  pub others : (y : ℕ) → nat_eq x y ≡ false → row_at new y ≡ row_at old y
