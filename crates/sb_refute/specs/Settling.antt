-- Memberships without constants, and the clauses that say whether they are true.
use Rattle.std.specs.Prelude.{◌≡◌, ◌⊎◌, ℕ, ◌≤◌, Bool, true, false, List, [], ◌∷◌, ◌++◌, Option, Some, None}
use Rattle.std.specs.List.{list_all, flat_map}
use Rattle.sb_word.specs.Words.{IsWord}
use Rattle.sb_lang.specs.Regex.{Regex}
use Rattle.sb_lit.specs.declared.clause.Lit.{Lit}
use Rattle.sb_lit.specs.Budgets.{Spending}
use Rattle.sb_lit.specs.Clauses.{are_among}
use Rattle.sb_lit.specs.Kept.{Kept, KeptClause, kept_at}
use Rattle.sb_script.specs.Pieces.{Piece, constant_piece, word_piece}
use Rattle.sb_deriv.specs.Faithful.{Memo}
use Rattle.sb_rulebook.specs.Atoms.{AtomOver, in_atom}
use Rattle.sb_rulebook.specs.Kept.{AllKept, Asked}
use Rattle.sb_rulebook.specs.Splits.{is_step}
use Rattle.sb_atoms.specs.Numbered.{Names, atoms_in}
use Rattle.sb_trace.specs.Putting.{IsCounted}
use Rattle.sb_refute.specs.Backing.{Backing, Backs, Evidences}
use Rattle.sb_refute.specs.declared.bare.Bare.{Bare}

-- Pieces without constants.

abbrev pub is_letters : Piece → Bool
is_letters (constant_piece serial) = false
is_letters (word_piece w) = true

-- no piece is a constant
abbrev pub are_letters : List Piece → Bool
are_letters ps = list_all is_letters ps

abbrev pub letters_in : Piece → List ℕ
letters_in (constant_piece serial) = []
letters_in (word_piece w) = w

-- the letters of a word, none of a constant
abbrev pub word_in : Piece → Option (List ℕ)
word_in (constant_piece serial) = None
word_in (word_piece w) = Some w

-- the letters of all words
abbrev pub letters_of : List Piece → List ℕ
letters_of ps = flat_map letters_in ps

-- a word alone; the empty one is no piece
abbrev pub pieces_of_word : List ℕ → List Piece
pieces_of_word [] = []
pieces_of_word (c ∷ w) = word_piece (c ∷ w) ∷ []

-- the word and the regex of an atom that is a membership without constants, none of another one
abbrev pub IsBareAtom : AtomOver ℕ → Option Bare → Type 0
IsBareAtom (in_atom ps r) None = are_letters ps ≡ false
IsBareAtom (in_atom ps r) (Some g) = (ps ≡ pieces_of_word g.word.items) × (r ≡ g.regex) × IsWord g.word.items
IsBareAtom _ None = Unit {0}
IsBareAtom _ (Some g) = ⊥

-- of the atom of the number
abbrev pub IsBare : List (AtomOver ℕ) → ℕ → Option Bare → Type 0
IsBare atoms i found = (a : AtomOver ℕ) × Names atoms i a × IsBareAtom a found

-- Clauses that are kept.

-- each clause stays under its number
abbrev pub KeptStay : Kept → Kept → Type 0
KeptStay old new = (id : ℕ) (clause : KeptClause) → kept_at old id ≡ Some clause → kept_at new id ≡ Some clause

-- some kept clause has only literals of this one
abbrev pub IsCovered : Kept → List Lit → Type 0
IsCovered kept clause = (id : ℕ) × (k : KeptClause) × (kept_at kept id ≡ Some k) × (are_among k.literals clause ≡ true)

-- A clause by rule step is kept at level 0 where none is that has only literals of it, if a step is left for that; a
-- line is put where proves are asked for, and then it follows.
pub record Steps (clause : List Lit) (proves : Bool) (before after : Spending) (e f : Backing)
    (old new : Option (List ℕ)) (done : Bool) : Type 0
  where
    pub is : (f ≡ e) ⊎ (f ≡ record e { kept = e.kept ++ Some (record { literals = clause; level = 0 }) ∷ [] })
    pub covered : done ≡ true → IsCovered f.kept clause
    pub spent : done ≡ false → after.spent ≡ after.limit
    pub limit : after.limit ≡ before.limit
    pub spends : before.spent ≤ after.spent
    pub puts : proves ≡ true → (asked : Asked) (rs : List Regex) (memo : Memo) (kept : AllKept)
        → is_step (atoms_in rs e.atoms) clause ≡ true → Backs rs memo e kept → IsCounted asked kept before
        → Evidences asked kept rs memo f after old new
