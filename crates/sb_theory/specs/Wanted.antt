-- The atoms that are to have values, and the literals of these.
use Rattle.std.specs.Prelude.{◌≡◌, ◌⊎◌, ℕ, Bool, true, nat_eq, List, [], ◌∷◌, ◌++◌, filter}
use Rattle.sb_theory.specs.Words.{Assigned, AtomOver, Lit, Regex, held, list_any}
use Rattle.sb_theory.specs.Memberships.{are_atoms, IsValid}

-- the atom is one of those that are wanted
abbrev pub is_wanted : List ℕ → ℕ → Bool
is_wanted wanted atom = list_any (nat_eq atom) wanted

-- the literal's atom is wanted
abbrev pub is_of_wanted : List ℕ → Lit → Bool
is_of_wanted wanted l = is_wanted wanted l.atom

-- the literals whose atoms are
abbrev pub wanted_of : List ℕ → List Lit → List Lit
wanted_of wanted ls = filter (is_of_wanted wanted) ls

-- those on a trail
abbrev pub wanted_on : List ℕ → List Assigned → List Lit
wanted_on wanted entries = wanted_of wanted (held entries)

-- the atoms, and this one behind them where it is new
abbrev pub IsWithAtom : List ℕ → List ℕ → ℕ → Type 0
IsWithAtom old new atom = ((new ≡ old) × (is_wanted old atom ≡ true)) ⊎ (new ≡ old ++ atom ∷ [])

-- a clause of known atoms that is true whatever the values are
abbrev pub IsTaught : List Regex → List (AtomOver ℕ) → List Lit → Type 0
IsTaught rs atoms clause = (are_atoms atoms clause ≡ true) × IsValid rs atoms clause
