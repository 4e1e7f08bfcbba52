-- The literals of assumptions, and those of clauses, by their numbers.
use Rattle.std.specs.Prelude.{◌≡◌, ℕ, List, [], Option, Some, None}
use Rattle.sb_lit.specs.declared.clause.Lit.{Lit}
use Rattle.sb_lit.specs.Kept.{Kept, KeptClause, kept_at}
use Rattle.sb_script.specs.State.{Assumption}
use Rattle.sb_rulebook.specs.Atoms.{AtomOver, bool_atom}
use Rattle.sb_atoms.specs.Numbered.{Names}

-- the literal, of the atom of the assumption's constant, says what the assumption does
abbrev pub Says : List (AtomOver ℕ) → Assumption → Lit → Type 0
Says atoms a l = Names atoms l.atom (bool_atom a.0) × (l.positive ≡ a.1)

-- the literals of a clause, none where there is none
abbrev pub literals_in : Option KeptClause → List Lit
literals_in None = []
literals_in (Some clause) = clause.literals

-- and of the clause of a number
abbrev pub literals_at : Kept → ℕ → List Lit
literals_at kept id = literals_in (kept_at kept id)
