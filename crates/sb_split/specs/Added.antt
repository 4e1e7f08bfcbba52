-- What a table of atoms gains, with an arena beside it.
use Rattle.std.specs.Prelude.{◌≡◌, ◌≤◌, ◌<◌, ℕ, Bool, true, List, [], length, get_or}
use Rattle.sb_meaning.specs.Terms.{Sort, text}
use Rattle.sb_regex.specs.Numbered as regex
use Rattle.sb_rulebook.specs.Atoms.{is_well_formed}
use Rattle.sb_rulebook.specs.AtomRules.{has_its_parts, is_declared}
use Rattle.sb_atoms.specs.Numbered.{Extends, NameEarlier}
use Rattle.std.specs.List.{Contains}
use Rattle.sb_split.specs.Words.{Lit, Atom, AtomOver, HaveRegexesBelow, Names, Piece, Regex, bool_atom, in_atom}

-- the constants of the membership of a number are declared
abbrev pub declares_at : List (AtomOver ℕ) → ℕ → List Sort → Bool
declares_at atoms i sorts = has_its_parts sorts [] (get_or atoms i (bool_atom 0))

-- the String constant is declared
abbrev pub declares : ℕ → List Sort → Bool
declares x sorts = is_declared sorts text x

-- Each atom behind the old ones is well formed, and right where it stands, given what is said of the constants.
abbrev pub AreDefined : (List Sort → Bool) → List (AtomOver ℕ) → List (AtomOver ℕ) → Type 0
AreDefined given old new = (i : ℕ) (atom : AtomOver ℕ) → length old ≤ i → Names new i atom
    → (is_well_formed atom ≡ true)
    × ((sorts : List Sort) (before : List Atom) → given sorts ≡ true → has_its_parts sorts before atom ≡ true)

-- the atom is a membership
pub record IsMembership (a : AtomOver ℕ) : Type 0 where
  pub pieces : List Piece
  pub regex : ℕ
  pub is : a ≡ in_atom pieces regex

-- so is each atom behind the old ones
abbrev pub AreMemberships : List (AtomOver ℕ) → List (AtomOver ℕ) → Type 0
AreMemberships old new = (i : ℕ) (atom : AtomOver ℕ) → length old ≤ i → Names new i atom → IsMembership atom

-- The arena and the table are larger; each new atom is a membership, names no literal, and is defined.
pub record Adds (given : List Sort → Bool) (rs ss : List Regex) (old new : List (AtomOver ℕ)) : Type 0 where
  pub arena : regex.Extends rs ss
  pub atoms : Extends old new
  pub regexes : HaveRegexesBelow (length ss) new
  pub members : AreMemberships old new
  pub earlier : NameEarlier (length old) new
  pub defined : AreDefined given old new

-- a literal of one of the clauses is of the atom
pub record IsSpokenOf (clauses : List (List Lit)) (i : ℕ) : Type 0 where
  pub clause : List Lit
  pub literal : Lit
  pub among : Contains clauses clause
  pub within : Contains clause literal
  pub is : literal.atom ≡ i

-- so it is with each atom behind the old ones
abbrev pub AreSpokenOf : List (AtomOver ℕ) → List (AtomOver ℕ) → List (List Lit) → Type 0
AreSpokenOf old new clauses = (i : ℕ) → length old ≤ i → i < length new → IsSpokenOf clauses i
