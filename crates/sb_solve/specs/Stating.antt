-- Private: the clauses of live assertions, and the literals of assumptions, as they are put in front of a search.
use Rattle.std.specs.Prelude.{◌≡◌, ◌≢◌, ℕ, ◌<◌, true, List, [], ◌∷◌, length, slice_get, Option, Some}
use Rattle.sb_solve.specs.Words.{AllKept, Asked, Asserted, Assumption, Backing, Backs, EvidencesUncounted, Grows, HasGates, HaveRegexesBelow, IsStatement, Lit, Memo, Regex, Sort, Stacked, Store, Term, are_declared, asked_in, asserted, asserted_at, atoms_in, list_all, live, state_of, translation}
use Rattle.sb_term.specs.Numbered.{term_at}
use Rattle.sb_atoms.specs.Numbered as table
use Rattle.sb_sound.specs.ScriptLaws.{assumption_fits}
use Rattle.sb_solve.specs.Assumed.{AreSaid}
use Rattle.sb_solve.specs.Solved.{AreOfLevels, level_at}

-- the number is of the term of the live assertion at the place, on this level
pub record IsAssertionAt (s : Stacked) (place id level : ℕ) : Type 0 where
  pub known : id < length s.table
  pub stands : slice_get (live (state_of s)) place ≡ Some (asserted (term_at s.table id))
  pub statement : IsStatement (asked_in (state_of s)) place (term_at s.table id) level

-- the literal is that of the live assertion at the place, and its clause stands in the proof
pub record IsStated (s : Stacked) (rs : List Regex) (e : Backing) (place : ℕ) (l : Lit) : Type 0 where
  pub term : Term
  pub stands : slice_get (live (state_of s)) place ≡ Some (asserted term)
  pub translates : translation (atoms_in rs e.atoms) term ≡ Some l
  pub clause : Asserted
  pub there : asserted_at e.asserted place ≡ Some clause
  pub literal : clause.literal ≡ l

-- The clause of the assertion at one place stands in the proof, with the lines that it lacked.
pub record States (s : Stacked) (place : ℕ) (x y : Store) (e f : Backing) (old new : Option (List ℕ))
    (l : Lit) : Type 0
  where
    pub puts : (before : AllKept) → Backs x.arena x.graph.memo e before
        → EvidencesUncounted (asked_in (state_of s)) before y.arena y.graph.memo f old new
    pub store : Grows s.table x y
    pub atoms : table.Extends e.atoms f.atoms
    pub below : HaveRegexesBelow (length x.arena) e.atoms
    pub regexes : HaveRegexesBelow (length y.arena) f.atoms
    pub declared : are_declared (state_of s).sorts e.atoms ≡ true → are_declared (state_of s).sorts f.atoms ≡ true
    pub others : (other : ℕ) → other ≢ place → asserted_at f.asserted other ≡ asserted_at e.asserted other
    pub level : (a : Asserted) → asserted_at f.asserted place ≡ Some a
        → level_at (asked_in (state_of s)).live place ≡ Some a.level
    pub gates : HasGates (length f.atoms) f.atoms f.kept
    pub stated : IsStated s y.arena f place l

-- one by one
abbrev pub AllStated : Stacked → List Regex → Backing → List ℕ → List Lit → Type 0
AllStated s rs e [] [] = Unit {0}
AllStated s rs e (place ∷ places) (l ∷ ls) = IsStated s rs e place l × AllStated s rs e places ls
AllStated s rs e _ _ = ⊥

-- The clauses of the assertions at these places stand in the proof.
pub record AreStated (s : Stacked) (places : List ℕ) (x y : Store) (e f : Backing) (old new : Option (List ℕ))
    (literals : List Lit) : Type 0
  where
    pub puts : (before : AllKept) → Backs x.arena x.graph.memo e before
        → EvidencesUncounted (asked_in (state_of s)) before y.arena y.graph.memo f old new
    pub store : Grows s.table x y
    pub regexes : HaveRegexesBelow (length y.arena) f.atoms
    pub declared : are_declared (state_of s).sorts e.atoms ≡ true → are_declared (state_of s).sorts f.atoms ≡ true
    pub levels : AreOfLevels (asked_in (state_of s)).live e.asserted f.asserted
    pub gates : 0 < length literals → HasGates (length f.atoms) f.atoms f.kept
    pub all : AllStated s y.arena f places literals

-- The literals are those of the assumptions, whose atoms stand in the proof.
pub record Assumes (given : List Assumption) (rs : List Regex) (e f : Backing) (old new : Option (List ℕ))
    (literals : List Lit) : Type 0
  where
    pub puts : (asked : Asked) (memo : Memo) (before : AllKept)
        → list_all (assumption_fits asked.sorts) given ≡ true → Backs rs memo e before
        → EvidencesUncounted asked before rs memo f old new
    pub atoms : table.Extends e.atoms f.atoms
    pub regexes : HaveRegexesBelow (length rs) f.atoms
    pub declared : (sorts : List Sort) → list_all (assumption_fits sorts) given ≡ true
        → are_declared sorts e.atoms ≡ true → are_declared sorts f.atoms ≡ true
    pub asserted : f.asserted ≡ e.asserted
    pub gates : HasGates (length e.atoms) e.atoms e.kept → HasGates (length f.atoms) f.atoms f.kept
    pub own : 0 < length literals → HasGates (length f.atoms) f.atoms f.kept
    pub all : AreSaid f.atoms given literals
