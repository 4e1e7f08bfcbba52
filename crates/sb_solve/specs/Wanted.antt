-- The atoms of literals, and the atoms that these speak of.
use Rattle.std.specs.Prelude.{◌≡◌, ℕ, Bool, true, ◌&&◌, nat_eq, List, [], map, slice_get, Some, None}
use Rattle.sb_rulebook.specs.Atoms.{literals_in}
use Rattle.sb_rulebook.specs.Brought.{is_brought_atom}
use Rattle.sb_solve.specs.Words.{AtomOver, IsDistinct, Lit, list_all, list_any}

abbrev pub is_in : List ℕ → ℕ → Bool
is_in numbers n = list_any (nat_eq n) numbers

abbrev pub atoms_of : List Lit → List ℕ
atoms_of literals = map (λ l. l.atom) literals

-- the atoms of the literals that an atom speaks of
abbrev pub parts_of : AtomOver ℕ → List ℕ
parts_of a = atoms_of (literals_in a)

-- the atom speaks of literals, of a Bool constant, or is a membership
abbrev pub is_simple : AtomOver ℕ → Bool
is_simple = is_brought_atom

-- a number past the table has no parts
abbrev pub parts_at : List (AtomOver ℕ) → ℕ → List ℕ
parts_at atoms i = elim (slice_get atoms i) [ None ↦ [] | Some atom ↦ parts_of atom ]

abbrev pub is_simple_at : List (AtomOver ℕ) → ℕ → Bool
is_simple_at atoms i = elim (slice_get atoms i) [ None ↦ true | Some atom ↦ is_simple atom ]

-- the atom is simple, and its parts are among the numbers
abbrev pub is_closed : List (AtomOver ℕ) → List ℕ → ℕ → Bool
is_closed atoms numbers i = is_simple_at atoms i && list_all (is_in numbers) (parts_at atoms i)

-- so is each of them
abbrev pub are_closed : List (AtomOver ℕ) → List ℕ → Bool
are_closed atoms numbers = list_all (is_closed atoms numbers) numbers

-- None are there but for a reason: whatever holds of the literals' atoms, and of the parts of each atom of which it
-- holds, holds of all these numbers.
abbrev pub AreLeast : List (AtomOver ℕ) → List Lit → List ℕ → Type 0
AreLeast atoms literals numbers =
    (test : ℕ → Bool) → list_all test (atoms_of literals) ≡ true
    → ((i : ℕ) → test i ≡ true → list_all test (parts_at atoms i) ≡ true) → list_all test numbers ≡ true

-- The atoms of the literals with their parts, and the parts of these: those and no others, each once.
pub record AreWanted (atoms : List (AtomOver ℕ)) (literals : List Lit) (numbers : List ℕ) : Type 0 where
  pub first : list_all (is_in numbers) (atoms_of literals) ≡ true
  pub closed : are_closed atoms numbers ≡ true
  pub least : AreLeast atoms literals numbers
  pub once : IsDistinct nat_eq numbers
