-- The clauses of an atom that speaks of literals, as a search takes them.
use Rattle.std.specs.Prelude.{ℕ, Bool, false, ◌||◌, ◌==◌, if◌then◌else◌, List, [], ◌∷◌, get_or}
use Rattle.std.specs.List.{flat_map}
use Rattle.sb_lit.specs.declared.clause.Lit.{Lit}
use Rattle.sb_rulebook.specs.Atoms.{AtomOver, bool_atom}
use Rattle.sb_rulebook.specs.Gates.{clauses_of}
use Rattle.sb_rulebook.specs.Translation.{in_order}

abbrev pub atom_at : List (AtomOver ℕ) → ℕ → AtomOver ℕ
atom_at atoms i = get_or atoms i (bool_atom 0)

-- the first of the literals is of this atom
abbrev pub begins_with : ℕ → List Lit → Bool
begins_with atom [] = false
begins_with atom (l ∷ ls) = atom == l.atom

-- among literals that ascend a literal stands beside its negation
abbrev pub is_trivial : List Lit → Bool
is_trivial [] = false
is_trivial (l ∷ ls) = begins_with l.atom ls || is_trivial ls

-- the clause of these literals, in order and each once; none where one and its negation are among them
abbrev pub clause_of : List Lit → List (List Lit)
clause_of ls = if is_trivial (in_order ls) then [] else in_order ls ∷ []

-- the clauses of an atom so
abbrev pub gate_clauses : ℕ → AtomOver ℕ → List (List Lit)
gate_clauses atom a = flat_map clause_of (clauses_of atom a)
