-- Private: a membership taken apart at its first piece, and what is made of it.
use Rattle.std.specs.Prelude.{◌≡◌, ◌≤◌, ◌<◌, length, ℕ, Bool, true, false, List, [], ◌∷◌, ◌++◌, map, Option}
use Rattle.std.specs.List.{Contains}
use Rattle.sb_word.specs.Words.{IsWord}
use Rattle.sb_rulebook.specs.Atoms.{are_pieces}
use Rattle.sb_proof.specs.Lines.{piece_in}
use Rattle.sb_split.specs.Covers.{ArePaths}
use Rattle.sb_split.specs.Words.{AtomOver, Lit, Names, Piece, Regex, constant_piece, in_atom, in_order, word_piece}
use Rattle.sb_split.specs.declared.fronts.Front.{Front}
use Rattle.sb_split.specs.declared.fronts.Front.TheVariants as front
use Rattle.sb_split.specs.declared.stepping.Step.{Step}

-- a word and more pieces are in the regex
pub record IsWordFront (atom : AtomOver ℕ) (w : List ℕ) (ps : List Piece) (r : ℕ) : Type 0 where
  pub is : atom ≡ in_atom (word_piece w ∷ ps) r
  pub word : IsWord w
  pub formed : are_pieces ps ≡ true

-- a constant and more pieces are in the regex
pub record IsConstantFront (atom : AtomOver ℕ) (x : ℕ) (ps : List Piece) (r : ℕ) : Type 0 where
  pub first : Piece
  pub others : List Piece
  pub more : ps ≡ first ∷ others
  pub is : atom ≡ in_atom (constant_piece x ∷ ps) r
  pub formed : are_pieces ps ≡ true

-- the atom is no membership, or one of one constant alone
abbrev pub is_whole : AtomOver ℕ → Bool
is_whole (in_atom [] r) = false
is_whole (in_atom (word_piece w ∷ ps) r) = false
is_whole (in_atom (constant_piece x ∷ p ∷ ps) r) = false
is_whole _ = true

abbrev pub IsFrontOf : AtomOver ℕ → Front → Type 0
IsFrontOf atom (front.End r) = atom ≡ in_atom [] r
IsFrontOf atom (front.Word w rest r) = IsWordFront atom w.items (map piece_in rest.items) r
IsFrontOf atom (front.Constant x rest r) = IsConstantFront atom x (map piece_in rest.items) r
IsFrontOf atom front.Other = is_whole atom ≡ true

-- so of the atom of a number
pub record IsFrontAt (atoms : List (AtomOver ℕ)) (i : ℕ) (f : Front) : Type 0 where
  pub atom : AtomOver ℕ
  pub names : Names atoms i atom
  pub is : IsFrontOf atom f

-- the step has these literals
pub record IsStepOver (ls : List Lit) (first last : Option Lit) (step : Step) : Type 0 where
  pub clause : step.clause ≡ in_order ls
  pub lead : step.lead ≡ first
  pub rest : step.rest ≡ last

-- the literal is positive, of this atom
pub record IsMember (atoms : List (AtomOver ℕ)) (atom : AtomOver ℕ) (l : Lit) : Type 0 where
  pub names : Names atoms l.atom atom
  pub positive : l.positive ≡ true

-- the paths to the regexes of the list stand behind the literals
pub record IsWithPaths (rs : List Regex) (atoms : List (AtomOver ℕ)) (x r : ℕ) (list : List ℕ) (old new : List Lit)
    : Type 0
  where
    pub paths : List Lit
    pub are : ArePaths rs atoms x r list paths
    pub is : new ≡ old ++ paths

-- an atom behind the old ones is that of one of the literals
pub record IsOneOf (ls : List Lit) (i : ℕ) : Type 0 where
  pub literal : Lit
  pub among : Contains ls literal
  pub is : literal.atom ≡ i

abbrev pub AreOf : List (AtomOver ℕ) → List (AtomOver ℕ) → List Lit → Type 0
AreOf old new ls = (i : ℕ) → length old ≤ i → i < length new → IsOneOf ls i
