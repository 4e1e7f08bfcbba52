-- When literals are true of words, one for each String constant.
use Rattle.std.specs.Prelude.{◌≡◌, ℕ, Bool, true, false, not, nat_eq, nat_lt, if◌then◌else◌, List, [], ◌∷◌, filter, get_or, slice_get, length, Option, Some, None, option_map, option_and_then, unwrap_or}
use Rattle.std.specs.List.{flat_map}
use Rattle.sb_theory.specs.Words.{AtomOver, Kept, KeptClause, Lit, Piece, Regex, atoms_in, bool_atom, clause_holds, constant_piece, in_atom, kept_at, list_all, regex_at, word_piece}
use Rattle.sb_lang.specs.Language.{language}
use Rattle.sb_rulebook.specs.Atoms.{member_in}
use Rattle.sb_meaning.specs.Values.{Valuation}
use Rattle.sb_sound.specs.Tables.{HasWords}
use Rattle.sb_clash.specs.Literals.{number_in}

-- the constant of a membership
abbrev pub constant_of : AtomOver ℕ → Option ℕ
constant_of a = option_map (λ m. m.0) (member_in a)

-- the constant that a literal is about, where its atom is a membership of one
abbrev pub subject_of : List (AtomOver ℕ) → Lit → Option ℕ
subject_of atoms l = option_and_then constant_of (slice_get atoms l.atom)

abbrev pub is_subject : ℕ → Option ℕ → Bool
is_subject x None = false
is_subject x (Some y) = nat_eq x y

abbrev pub is_about : List (AtomOver ℕ) → ℕ → Lit → Bool
is_about atoms x l = is_subject x (subject_of atoms l)

-- the literals that are about a constant
abbrev pub literals_about : List (AtomOver ℕ) → ℕ → List Lit → List Lit
literals_about atoms x ls = filter (is_about atoms x) ls

-- a row for each constant, an empty one past the last
abbrev pub row_at : List (List Lit) → ℕ → List Lit
row_at rows x = get_or rows x []

-- the rows are the literals that are about each constant
abbrev pub AreMembers : List (AtomOver ℕ) → List (List Lit) → List Lit → Type 0
AreMembers atoms rows ls = (x : ℕ) → row_at rows x ≡ literals_about atoms x ls

-- the word of a constant, the empty one where it has none
abbrev pub word_at : List (Option (List ℕ)) → ℕ → List ℕ
word_at words x = unwrap_or (get_or words x None) []

-- the literal of a membership is true where its constant's word is this one
abbrev pub is_true_of : List Regex → List (AtomOver ℕ) → List ℕ → Lit → Bool
is_true_of rs atoms w l =
    if l.positive then language (regex_at rs (number_in (get_or atoms l.atom (bool_atom 0)))) w
    else not (language (regex_at rs (number_in (get_or atoms l.atom (bool_atom 0)))) w)

-- the word of a piece, and that of pieces one behind the other
abbrev pub piece_word : List (Option (List ℕ)) → Piece → List ℕ
piece_word words (constant_piece x) = word_at words x
piece_word words (word_piece w) = w

abbrev pub joined_word : List (Option (List ℕ)) → List Piece → List ℕ
joined_word words ps = flat_map (piece_word words) ps

-- a membership, or its negation, is true of the word of its pieces; of other atoms nothing is said
abbrev pub fits_pieces : List Regex → List (Option (List ℕ)) → Bool → Option (AtomOver ℕ) → Bool
fits_pieces rs words positive (Some (in_atom ps r)) =
    if positive then language (regex_at rs r) (joined_word words ps)
    else not (language (regex_at rs r) (joined_word words ps))
fits_pieces rs words positive _ = true

-- where a literal is about a constant, it is true of its word, and where it is about several pieces, or none, of theirs
abbrev pub fits_subject : List Regex → List (AtomOver ℕ) → List (Option (List ℕ)) → Lit → Option ℕ → Bool
fits_subject rs atoms words l None = fits_pieces rs words l.positive (slice_get atoms l.atom)
fits_subject rs atoms words l (Some x) = is_true_of rs atoms (word_at words x) l

-- the literal is true where the constants have these words; of atoms that are no memberships nothing is said
abbrev pub is_true_by : List Regex → List (AtomOver ℕ) → List (Option (List ℕ)) → Lit → Bool
is_true_by rs atoms words l = fits_subject rs atoms words l (subject_of atoms l)

-- the atom is a membership, but not of one constant alone
abbrev pub is_joined_atom : AtomOver ℕ → Bool
is_joined_atom (in_atom (constant_piece x ∷ []) r) = false
is_joined_atom (in_atom ps r) = true
is_joined_atom _ = false

abbrev pub is_joined : List (AtomOver ℕ) → ℕ → Bool
is_joined atoms i = elim (slice_get atoms i) [ None ↦ false | Some a ↦ is_joined_atom a ]

-- the new words are the old ones, but for this constant
abbrev pub IsPut : List (Option (List ℕ)) → List (Option (List ℕ)) → ℕ → List ℕ → Type 0
IsPut old new x w = (y : ℕ) → word_at new y ≡ (if nat_eq x y then w else word_at old y)

-- the clause is true whatever the values are
abbrev pub IsValid : List Regex → List (AtomOver ℕ) → List Lit → Type 0
IsValid rs atoms clause = (v : Valuation) → HasWords v → clause_holds v (atoms_in rs atoms) clause ≡ true

-- the atom has a number below this one
abbrev pub is_atom : List (AtomOver ℕ) → ℕ → Bool
is_atom atoms atom = nat_lt atom (length atoms)

abbrev pub are_atoms : List (AtomOver ℕ) → List Lit → Bool
are_atoms atoms ls = list_all (λ l. is_atom atoms l.atom) ls

-- so it is with those of kept clauses
abbrev pub HaveAtoms : List (AtomOver ℕ) → Kept → Type 0
HaveAtoms atoms kept =
    (id : ℕ) (clause : KeptClause) → kept_at kept id ≡ Some clause → are_atoms atoms clause.literals ≡ true
