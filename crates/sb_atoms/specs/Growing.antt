-- Private: what a table of atoms gains, and what is found over it.
use Rattle.std.specs.Prelude.{◌≡◌, ℕ, ◌+◌, Bool, true, false, ◌&&◌, nat_lt, List, [], ◌++◌, length, Option, Some, None}
use Rattle.std.specs.List.{list_all}
use Rattle.sb_lit.specs.declared.clause.Lit.{Lit}
use Rattle.sb_lang.specs.Regex.{Regex}
use Rattle.sb_meaning.specs.Terms.{Sort, Term}
use Rattle.sb_regex.specs.Numbered as regex
use Rattle.sb_rulebook.specs.Atoms.{Atom, AtomOver, is_well_formed}
use Rattle.sb_rulebook.specs.AtomRules.{is_declared_piece, has_its_parts}
use Rattle.sb_rulebook.specs.Tables.{names_below}
use Rattle.sb_rulebook.specs.Translation.{positive}
use Rattle.sb_fragment.specs.declared.measure.Measure.{Measure}
use Rattle.sb_fragment.specs.Measures.{AreMeasures}
use Rattle.sb_problem.specs.declared.normals.Known.{Known}
use Rattle.sb_problem.specs.Known.{AreNormals}
use Rattle.sb_script.specs.Pieces.{Piece}
use Rattle.sb_atoms.specs.Numbered.{Names, IsWith, over, atoms_in, HasRegexBelow, HaveRegexesBelow}

abbrev pub is_below : ℕ → Lit → Bool
is_below n l = nat_lt l.atom n

abbrev pub are_below : ℕ → List Lit → Bool
are_below n ls = list_all (is_below n) ls

-- the constants among pieces are declared, with these sorts
abbrev pub are_declared_pieces : List Sort → List Piece → Bool
are_declared_pieces sorts ps = list_all (is_declared_piece sorts) ps

-- The table has more atoms, or where none is to be added the same. Each of them names no literal but of the atoms
-- before it, and is right where it stands, given what is said of the constants of a term.
pub record Grown (adds : Bool) (regexes : ℕ) (given : List Sort → Bool) (old new : List (AtomOver ℕ)) : Type 0 where
  pub more : List (AtomOver ℕ)
  pub is : new ≡ old ++ more
  pub still : adds ≡ false → more ≡ []
  pub regex : (i : ℕ) (a : AtomOver ℕ) → Names more i a → HasRegexBelow regexes a
  pub formed : (i : ℕ) (a : AtomOver ℕ) → Names more i a → is_well_formed a ≡ true
  pub earlier : (i : ℕ) (a : AtomOver ℕ) → Names more i a → (rs : List Regex)
      → names_below (length old + i) (over rs a) ≡ true
  pub parts : (sorts : List Sort) → given sorts ≡ true → (i : ℕ) (a : AtomOver ℕ) → Names more i a
      → (before : List Atom) → length before ≡ length old + i → has_its_parts sorts before a ≡ true

-- whatever the regexes are, and with no constants
abbrev pub GrownByGates : Bool → List (AtomOver ℕ) → List (AtomOver ℕ) → Type 0
GrownByGates adds old new = (regexes : ℕ) (given : List Sort → Bool) → Grown adds regexes given old new

-- the one atom is new at most
pub record GrownByOne (adds : Bool) (old new : List (AtomOver ℕ)) (atom : AtomOver ℕ) : Type 0 where
  pub one : IsWith old new atom
  pub still : adds ≡ false → new ≡ old

-- What is found over the atoms; there is nothing only where an atom is missing and is not to be added.
pub record Gives {A : Type 0} (known : ℕ → A → Bool) (adds : Bool) (new : List (AtomOver ℕ))
    (make : List Atom → Option A) (found : Option A) : Type 0
  where
    pub is : (rs : List Regex) → found ≡ make (atoms_in rs new)
    pub sure : adds ≡ true → found ≡ None → ⊥
    pub below : (x : A) → found ≡ Some x → known (length new) x ≡ true

-- The same of some literals; where these are added and there is nothing, there is nothing for any as many literals.
pub record GivesLike (adds : Bool) (new : List (AtomOver ℕ)) (make : List Atom → List Lit → Option Lit) (ls : List Lit)
    (found : Option Lit) : Type 0
  where
    pub is : (rs : List Regex) → found ≡ make (atoms_in rs new) ls
    pub none : adds ≡ true → found ≡ None → (atoms : List Atom) (others : List Lit) → length others ≡ length ls
        → make atoms others ≡ None
    pub below : (l : Lit) → found ≡ Some l → is_below (length new) l ≡ true

abbrev pub are_pairs_below : ℕ → List (Lit × Lit) → Bool
are_pairs_below n ps = list_all (λ p. is_below n p.0 && is_below n p.1) ps

-- no other atom is this one over the regexes
abbrev pub IsApart : List Regex → List (AtomOver ℕ) → AtomOver ℕ → Type 0
IsApart rs atoms a = (i : ℕ) (b : AtomOver ℕ) → Names atoms i b → over rs b ≡ over rs a → b ≡ a

-- the literal that the atom is true in, and none only where it is missing and is not to be added
pub record IsLiteralOf (adds : Bool) (new : List (AtomOver ℕ)) (atom : AtomOver ℕ) (found : Option Lit) : Type 0 where
  pub is : (rs : List Regex) → IsApart rs new atom → found ≡ positive (atoms_in rs new) (over rs atom)
  pub sure : adds ≡ true → found ≡ None → ⊥
  pub names : (l : Lit) → found ≡ Some l → Names new l.atom atom × (l.positive ≡ true)

-- What is found over the atoms; where they are added and there is nothing, there is nothing over any table.
pub record Finds {A : Type 0} (known : ℕ → A → Bool) (adds : Bool) (rs : List Regex) (new : List (AtomOver ℕ))
    (make : List Atom → Option A) (found : Option A) : Type 0
  where
    pub is : found ≡ make (atoms_in rs new)
    pub none : adds ≡ true → found ≡ None → (atoms : List Atom) → make atoms ≡ None
    pub below : (x : A) → found ≡ Some x → known (length new) x ≡ true

-- what is kept of terms, regexes and atoms is right
pub record AreReady (ts : List Term) (ms : List Measure) (ks : List Known) (rs : List Regex) (atoms : List (AtomOver ℕ))
    : Type 0
  where
    pub right : AreMeasures ts ms
    pub normals : AreNormals ts rs ks
    pub regexes : HaveRegexesBelow (length rs) atoms

-- the arena and the table of atoms are larger
pub record Moves (adds : Bool) (given : List Sort → Bool) (rs more : List Regex) (old new : List (AtomOver ℕ)) : Type 0
  where
    pub arena : regex.Extends rs more
    pub atoms : Grown adds (length more) given old new
