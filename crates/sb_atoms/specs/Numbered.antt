-- Atoms by their numbers in a list.
use Rattle.std.specs.Prelude.{◌≡◌, ◌⊎◌, ℕ, ◌<◌, ◌≤◌, true, List, [], ◌∷◌, ◌++◌, map, slice_get, Option, Some, None}
use Rattle.sb_lang.specs.Regex.{Regex}
use Rattle.sb_regex.specs.Numbered.{regex_at}
use Rattle.sb_rulebook.specs.Atoms.{Atom, AtomOver, in_atom, map_atom}
use Rattle.sb_rulebook.specs.Tables.{names_below}
use Rattle.sb_proof.specs.declared.atom.Atom as code
pub use Rattle.sb_proof.specs.Lines.{atom_in}

abbrev pub numbered_atoms : List (code.Atom ℕ) → List (AtomOver ℕ)
numbered_atoms ds = map atom_in ds

-- the number is of this atom
abbrev pub Names : List (AtomOver ℕ) → ℕ → AtomOver ℕ → Type 0
Names atoms i atom = slice_get atoms i ≡ Some atom

-- the number that the atom has, and none where no number is of it
abbrev pub IsNumberIn : List (AtomOver ℕ) → AtomOver ℕ → Option ℕ → Type 0
IsNumberIn atoms atom None = (i : ℕ) → Names atoms i atom → ⊥
IsNumberIn atoms atom (Some id) = Names atoms id atom

-- the old atoms keep their numbers
pub record Extends (old new : List (AtomOver ℕ)) : Type 0 where
  pub more : List (AtomOver ℕ)
  pub is : new ≡ old ++ more

-- the old atoms, and this one behind them where it is new
abbrev pub IsWith : List (AtomOver ℕ) → List (AtomOver ℕ) → AtomOver ℕ → Type 0
IsWith old new atom = (new ≡ old) ⊎ (new ≡ old ++ atom ∷ [])

-- each atom has one number
abbrev pub AreDistinct : List (AtomOver ℕ) → Type 0
AreDistinct atoms = (i j : ℕ) (atom : AtomOver ℕ) → Names atoms i atom → Names atoms j atom → i ≡ j

-- Atoms over the regexes of an arena.

-- the atom with the regex itself
abbrev pub over : List Regex → AtomOver ℕ → Atom
over rs = map_atom (regex_at rs)

abbrev pub atoms_in : List Regex → List (AtomOver ℕ) → List Atom
atoms_in rs atoms = map (over rs) atoms

-- the regex in it is one of so many
abbrev pub HasRegexBelow : ℕ → AtomOver ℕ → Type 0
HasRegexBelow n (in_atom ps r) = r < n
HasRegexBelow n _ = Unit {0}

abbrev pub HaveRegexesBelow : ℕ → List (AtomOver ℕ) → Type 0
HaveRegexesBelow n atoms = (i : ℕ) (atom : AtomOver ℕ) → Names atoms i atom → HasRegexBelow n atom

-- each atom from this number on names no literal but of the atoms before it
abbrev pub NameEarlier : ℕ → List (AtomOver ℕ) → Type 0
NameEarlier from atoms = (i : ℕ) (atom : AtomOver ℕ) → from ≤ i → Names atoms i atom → (rs : List Regex)
    → names_below i (over rs atom) ≡ true
