-- The clauses of gates, which are true under every valuation. A clause is one by the set of its literals.
use Rattle.std.specs.Prelude.{ℕ, ℤ, pos, negsuc, Bool, true, false, not, ◌&&◌, ◌||◌, if◌then◌else◌, List, [], ◌∷◌, ◌++◌, map, slice_get, Option, Some, None}
use Rattle.std.specs.List.{list_any}
use Rattle.sb_lit.specs.declared.clause.Lit.{Lit}
use Rattle.sb_lit.specs.Clauses.{negation, is_among, are_among}
use Rattle.sb_lang.specs.Constructors.{any_character, mkrep}
use Rattle.sb_rulebook.specs.Atoms.{Atom, AtomOver, in_atom, le_atom, and_atom, iff_atom, is_same_atom}
use Rattle.sb_script.specs.Pieces.{constant_piece}
use Rattle.sb_script.specs.Sums.{length_of}

-- the clause is the set of these literals
abbrev pub is_set_of : List Lit → List Lit → Bool
is_set_of clause ls = are_among clause ls && are_among ls clause

abbrev pub atom_of : List Atom → Lit → Option Atom
atom_of atoms l = slice_get atoms l.atom

abbrev pub differ_in_sign : Lit → Lit → Bool
differ_in_sign l m = if l.positive then not m.positive else m.positive

-- The clauses of an atom say what it says of its literals. Each kind of atom that speaks of literals has its row.

-- the literal of the gate
abbrev pub gate : ℕ → Bool → Lit
gate atom positive = record { atom = atom; positive = positive }

-- where a conjunction is true each of its literals is, and where all of these are true it is; where an equivalence is
-- true both of its literals are true, or both false, and where it is false they are not
abbrev pub clauses_of : {R : Type 0} → ℕ → AtomOver R → List (List Lit)
clauses_of atom (and_atom ls) = map (λ l. gate atom false ∷ l ∷ []) ls ++ (gate atom true ∷ map negation ls) ∷ []
clauses_of atom (iff_atom l m) =
    (gate atom true ∷ l ∷ m ∷ [])
    ∷ (gate atom true ∷ negation l ∷ negation m ∷ [])
    ∷ (gate atom false ∷ negation l ∷ m ∷ [])
    ∷ (gate atom false ∷ l ∷ negation m ∷ []) ∷ []
clauses_of atom _ = []

-- Gates: a literal and its negation; a clause of an atom; the length of a constant, and its membership in the words up
-- to that length.

abbrev pub has_both_signs : List Lit → Bool
has_both_signs clause = list_any (λ l. is_among clause (negation l)) clause

-- the constant is a word of at most so many characters
abbrev pub short_membership : ℕ → ℕ → Atom
short_membership serial n = in_atom (constant_piece serial ∷ []) (mkrep any_character 0 n)

abbrev pub is_short_membership : ℕ → ℤ → Option Atom → Bool
is_short_membership serial (pos n) (Some atom) = is_same_atom (short_membership serial n) atom
is_short_membership serial (pos n) None = false
is_short_membership serial (negsuc n) atom = false

-- the clause is of the literal of the bound and of one of the membership, with the other sign
abbrev pub is_length_link : List Atom → List Lit → Lit → ℕ → ℤ → Bool
is_length_link atoms clause l serial k =
    list_any (λ m. is_short_membership serial k (atom_of atoms m)
    && (differ_in_sign l m && is_set_of clause (l ∷ m ∷ []))) clause

-- the clause links the atom of this literal, a bound of a length, with such a membership
abbrev pub is_link_of : List Atom → List Lit → Lit → Atom → Bool
is_link_of atoms clause l (le_atom (length_of serial) k) = is_length_link atoms clause l serial k
is_link_of atoms clause l _ = false

-- the clause is a gate of the atom of this literal
abbrev pub is_gate_of : List Atom → List Lit → Lit → Option Atom → Bool
is_gate_of atoms clause l (Some atom) =
    list_any (is_set_of clause) (clauses_of l.atom atom) || is_link_of atoms clause l atom
is_gate_of atoms clause l None = false

abbrev pub is_gate : List Atom → List Lit → Bool
is_gate atoms clause = has_both_signs clause || list_any (λ l. is_gate_of atoms clause l (atom_of atoms l)) clause
