-- Private: the pieces of a membership, and clauses of steps.
use Rattle.std.specs.Prelude.{◌≡◌, ℕ, Bool, true, false, not, ◌&&◌, ◌||◌, nat_eq, List, [], ◌∷◌, length, Option, Some, None}
use Rattle.std.specs.List.{list_all, list_any}
use Rattle.sb_word.specs.Words.{are_characters}
use Rattle.sb_lang.specs.Regex.{Regex}
use Rattle.sb_lit.specs.declared.clause.Lit.{Lit}
use Rattle.sb_plain.specs.Memory.{Memory, IsRight}
use Rattle.sb_script.specs.Pieces.{Piece, constant_piece, word_piece}
use Rattle.sb_rulebook.specs.Atoms.{Atom, AtomOver, is_well_formed}
use Rattle.sb_rulebook.specs.Gates.{is_set_of, atom_of}
use Rattle.sb_rulebook.specs.Splits.{is_end, is_split, is_step_of}
use Rattle.sb_atoms.specs.Numbered.{HaveRegexesBelow}

-- Which pieces are well formed, one behind the other.

-- a word that is not empty, of characters
abbrev pub is_full : List ℕ → Bool
is_full [] = false
is_full (c ∷ w) = are_characters (c ∷ w)

-- a piece may stand here, where a word stands before it or not
abbrev pub may_stand : Bool → Piece → Bool
may_stand behind (constant_piece serial) = true
may_stand behind (word_piece w) = not behind && is_full w

abbrev pub is_word_piece : Piece → Bool
is_word_piece (constant_piece serial) = false
is_word_piece (word_piece w) = true

-- each of them may stand behind the one before it
abbrev pub may_follow : Bool → List Piece → Bool
may_follow behind [] = true
may_follow behind (p ∷ ps) = may_stand behind p && may_follow (is_word_piece p) ps

-- Steps.

-- the membership is of this constant alone, in the regex of this number
abbrev pub is_this : ℕ → ℕ → Option (ℕ × ℕ) → Bool
is_this serial regex None = false
is_this serial regex (Some m) = nat_eq m.0 serial && nat_eq m.1 regex

-- the clause is this literal alone, of a membership of no pieces
abbrev pub is_ended_by : List Atom → List Lit → Lit → Bool
is_ended_by atoms clause a = is_set_of clause (a ∷ []) && is_end a.positive (atom_of atoms a)

-- the clause is a step of the membership of this literal
abbrev pub begins_step : List Atom → List Lit → Lit → Bool
begins_step atoms clause a = is_ended_by atoms clause a || list_any (is_step_of atoms clause a) clause

-- the clause is the step of these two literals by this third one
abbrev pub is_split_with : List Atom → List Lit → Lit → Lit → Lit → Bool
is_split_with atoms clause a c b =
    not b.positive
    && (is_set_of clause (b ∷ a ∷ c ∷ []) && is_split (atom_of atoms a) (atom_of atoms b) (atom_of atoms c))

-- The atoms are well formed, of regexes of an arena of which what is remembered is right.
pub record AreReady (atoms : List (AtomOver ℕ)) (rs : List Regex) (m : Memory) : Type 0 where
  pub formed : list_all is_well_formed atoms ≡ true
  pub regexes : HaveRegexesBelow (length rs) atoms
  pub right : IsRight rs m
