-- How the table of atoms grows, and what its constants are declared as.
use Rattle.std.specs.Prelude.{◌≡◌, ℕ, ◌≤◌, Bool, true, List, length}
pub use Rattle.sb_split.specs.Added.{IsMembership}
use Rattle.sb_theory.specs.Words.{AtomOver, Extends, Names, Sort, is_well_formed, list_all}
use Rattle.sb_rulebook.specs.AtomRules.{is_declared}
use Rattle.sb_rulebook.specs.Atoms.{constants_in}

abbrev pub is_declared_constant : List Sort → ℕ × Sort → Bool
is_declared_constant sorts c = is_declared sorts c.1 c.0

-- the constants that stand in the atom are declared, each with the sort that it has there
abbrev pub is_sorted : List Sort → AtomOver ℕ → Bool
is_sorted sorts a = list_all (is_declared_constant sorts) (constants_in a)

abbrev pub are_declared : List Sort → List (AtomOver ℕ) → Bool
are_declared sorts atoms = list_all (is_sorted sorts) atoms

-- each atom is well formed
abbrev pub AreFormed : List (AtomOver ℕ) → Type 0
AreFormed atoms = (i : ℕ) (a : AtomOver ℕ) → Names atoms i a → is_well_formed a ≡ true

-- The old atoms keep their numbers. Each new one is a membership, well formed, and of declared constants where the old
-- ones are.
pub record TableGrows (old new : List (AtomOver ℕ)) : Type 0 where
  pub extends : Extends old new
  pub members : (i : ℕ) (a : AtomOver ℕ) → length old ≤ i → Names new i a → IsMembership a
  pub formed : AreFormed old → AreFormed new
  pub declared : (sorts : List Sort) → are_declared sorts old ≡ true → are_declared sorts new ≡ true
