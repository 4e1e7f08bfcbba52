-- What a search's trail says where all atoms that are wanted have values: each value is the atom's truth.
use Rattle.std.specs.Prelude.{◌≡◌, ℕ, true, false, List, [], ◌∷◌, get_or, Option, Some, Contains}
use Rattle.sb_solve.specs.Words.{AreDistinct, Assigned, AtomOver, HasSorts, IsConsistent, Kept, KeptClause, Lit, Names, Piece, Regex, Sort, Term, Valuation, atoms_in, bool_atom, constant_piece, fits_sorts, held, holds, in_atom, is_atom, is_table, is_true_by, kept_at, list_all, literal_holds, translation, truth_at, truths_of, value_of, wanted_on, word_at}
use Rattle.sb_lit.specs.Clauses.{is_true_under}
use Rattle.sb_clauses.specs.Propagation.{HasNoneFalse}
use Rattle.sb_rulebook.specs.Atoms as rulebook
use Rattle.sb_atoms.specs.GateClauses.{atom_at, gate_clauses}
use Rattle.sb_search.specs.Found.{has_value}
use Rattle.sb_solve.specs.Wanted.{is_in, are_closed}
use Rattle.sb_solve.specs.Values.{truth_by}

-- the clause is kept
abbrev pub IsKept : Kept → List Lit → Type 0
IsKept kept clause = (id : ℕ) × (k : KeptClause) × (kept_at kept id ≡ Some k) × (k.literals ≡ clause)

-- each of them is
abbrev pub AreKept : Kept → List (List Lit) → Type 0
AreKept kept [] = Unit {0}
AreKept kept (clause ∷ clauses) = IsKept kept clause × AreKept kept clauses

-- Each atom that is wanted has a value, with the atoms that it speaks of, no kept clause is false, and what an atom
-- says of literals is kept.
pub record IsDecided (rs : List Regex) (atoms : List (AtomOver ℕ)) (wanted : List ℕ) (kept : Kept)
    (entries : List Assigned) : Type 0
  where
    pub table : is_table (atoms_in rs atoms) ≡ true
    pub distinct : AreDistinct atoms
    pub known : list_all (is_atom atoms) wanted ≡ true
    pub closed : are_closed atoms wanted ≡ true
    pub full : list_all (has_value entries) wanted ≡ true
    pub none_false : HasNoneFalse kept (held entries)
    pub gates : (i : ℕ) → is_in wanted i ≡ true → AreKept kept (gate_clauses i (atom_at atoms i))

-- The wanted memberships on the trail are true of the words; the valuation gives these words, and the truths of the
-- trail, to the constants of atoms that are wanted.
pub record IsGiven (rs : List Regex) (atoms : List (AtomOver ℕ)) (wanted : List ℕ) (entries : List Assigned)
    (words : List (Option (List ℕ))) (v : Valuation) : Type 0
  where
    pub agrees : list_all (is_true_by rs atoms words) (wanted_on wanted entries) ≡ true
    pub gives_words : (i serial r : ℕ) (ps : List Piece) → is_in wanted i ≡ true → Names atoms i (in_atom ps r)
        → Contains ps (constant_piece serial) → rulebook.word_at v serial ≡ word_at words serial
    pub gives_truths : (i serial : ℕ) → is_in wanted i ≡ true → Names atoms i (bool_atom serial)
        → truth_at v serial ≡ truth_by atoms entries wanted serial

-- each atom that is wanted has its truth as its value
abbrev pub ValuesAreTruths : Type 0
ValuesAreTruths = (rs : List Regex) (atoms : List (AtomOver ℕ)) (wanted : List ℕ) (kept : Kept)
    (entries : List Assigned) (words : List (Option (List ℕ))) (v : Valuation) → IsDecided rs atoms wanted kept entries
    → IsGiven rs atoms wanted entries words v → (i : ℕ) → is_in wanted i ≡ true
    → value_of entries i ≡ Some (get_or (truths_of v (atoms_in rs atoms)) i false)

-- so the literals of the trail are true whose atoms are wanted,
abbrev pub LiteralsAreTrue : Type 0
LiteralsAreTrue = (rs : List Regex) (atoms : List (AtomOver ℕ)) (wanted : List ℕ) (kept : Kept)
    (entries : List Assigned) (words : List (Option (List ℕ))) (v : Valuation) → IsDecided rs atoms wanted kept entries
    → IsGiven rs atoms wanted entries words v → IsConsistent (held entries) → (l : Lit) → is_in wanted l.atom ≡ true
    → is_true_under (held entries) l ≡ true → literal_holds (truths_of v (atoms_in rs atoms)) l ≡ true

-- and a term holds whose literal is a kept clause
abbrev pub TermsAreTrue : Type 0
TermsAreTrue = (rs : List Regex) (atoms : List (AtomOver ℕ)) (wanted : List ℕ) (kept : Kept)
    (entries : List Assigned) (words : List (Option (List ℕ))) (v : Valuation) → IsDecided rs atoms wanted kept entries
    → IsGiven rs atoms wanted entries words v → (sorts : List Sort) (t : Term) (l : Lit) → HasSorts v sorts
    → fits_sorts sorts t ≡ true → translation (atoms_in rs atoms) t ≡ Some l → is_in wanted l.atom ≡ true
    → IsKept kept (l ∷ []) → holds t v ≡ true
