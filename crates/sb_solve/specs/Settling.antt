-- Private: the clauses that say the truth of memberships without constants, as they are kept in front of a search.
use Rattle.std.specs.Prelude.{◌≡◌, ℕ, ◌<◌, ◌≤◌, Bool, true, false, List, [], ◌∷◌, ◌++◌, length, Option, Some, None}
use Rattle.std.specs.declared.alloc.Global.{Global}
use Rattle.std.specs.declared.vec.Vec.{Vec}
use Rattle.sb_solve.specs.Words.{AllKept, AreTerms, Asked, AtomOver, Backing, Backs, Evidences, HasGates, HaveRegexesBelow, IsCounted, KeptStay, Lit, Names, Regex, RegexesGrow, Sort, Spending, Store, are_atoms, are_declared, in_atom}
use Rattle.sb_lang.specs.Derivative.{nd_along}
use Rattle.sb_script.specs.Pieces.{word_piece}
use Rattle.sb_regex.specs.Numbered.{regex_at}
use Rattle.sb_atoms.specs.Numbered as table
use Rattle.sb_solve.specs.Truth.{IsTrue}

-- More is known of regexes, atoms stand behind the others, and clauses behind theirs; lines that were put follow, where
-- proves are asked for, and what was true stays so where none are. The budget keeps its limit, and no step of it comes
-- back.
pub record Goes (proves : Bool) (x : Store) (e : Backing) (before : Spending) (old : Option (List ℕ)) (y : Store)
    (f : Backing) (after : Spending) (new : Option (List ℕ)) : Type 0
  where
    pub store : RegexesGrow x y
    pub below : HaveRegexesBelow (length x.arena) e.atoms
    pub regexes : HaveRegexesBelow (length y.arena) f.atoms
    pub atoms : table.Extends e.atoms f.atoms
    pub asserted : f.asserted ≡ e.asserted
    pub stay : KeptStay e.kept f.kept
    pub gates : HasGates (length e.atoms) e.atoms e.kept → HasGates (length f.atoms) f.atoms f.kept
    pub declared : (sorts : List Sort) → are_declared sorts e.atoms ≡ true → are_declared sorts f.atoms ≡ true
    pub limit : after.limit ≡ before.limit
    pub spends : before.spent ≤ after.spent
    pub puts : proves ≡ true → (asked : Asked) (kept : AllKept) → Backs x.arena x.graph.memo e kept
        → IsCounted asked kept before → Evidences asked kept y.arena y.graph.memo f after old new
    pub sound : proves ≡ false → (asked : Asked) → AreTerms asked → IsTrue asked x.arena x.graph.memo e
        → IsTrue asked y.arena y.graph.memo f

-- The literals, and others behind them, of known atoms; where there are such, the clauses of all gates are kept.
pub record HasEnds (e : Backing) (was now : List Lit) : Type 0 where
  pub more : List Lit
  pub is : now ≡ was ++ more
  pub known : are_atoms e.atoms more ≡ true
  pub own : 0 < length more → HasGates (length e.atoms) e.atoms e.kept

-- a clause by rule step may be kept, unless all is spent
pub record StepsOnce (proves : Bool) (x : Store) (e : Backing) (before : Spending) (old : Option (List ℕ))
    (f : Backing) (after : Spending) (new : Option (List ℕ)) (done : Bool) : Type 0
  where
    pub goes : Goes proves x e before old x f after new
    pub same : f.atoms ≡ e.atoms
    pub spent : done ≡ false → after.spent ≡ after.limit

-- one atom says that a word is in a regex, and one that the empty word is in the derivative along it
abbrev pub IsCutAt : List Regex → List (AtomOver ℕ) → ℕ → ℕ → Type 0
IsCutAt rs atoms i end = (w : List ℕ) × (r : ℕ) × (q : ℕ) × Names atoms i (in_atom (word_piece w ∷ []) r)
    × Names atoms end (in_atom [] q) × (regex_at rs q ≡ nd_along (regex_at rs r) w)

-- clauses of one atom may be kept, unless all is spent
pub record Settles (proves : Bool) (x : Store) (e : Backing) (before : Spending) (old : Option (List ℕ))
    (was : List Lit) (y : Store) (f : Backing) (after : Spending) (new : Option (List ℕ)) (now : List Lit) (done : Bool)
    : Type 0
  where
    pub goes : Goes proves x e before old y f after new
    pub spent : done ≡ false → after.spent ≡ after.limit
    pub ends : HasEnds f was now

-- clauses of some atoms may be kept, with the ends
pub record AllSettle (proves : Bool) (x : Store) (e : Backing) (before : Spending) (old : Option (List ℕ)) (y : Store)
    (f : Backing) (after : Spending) (new : Option (List ℕ)) (now : List Lit) : Type 0
  where
    pub goes : Goes proves x e before old y f after new
    pub ends : HasEnds f [] now

-- so it is, or all is spent
abbrev pub IsSettlement : Bool → Store → Backing → Spending → Option (List ℕ) → Store → Backing → Spending
    → Option (List ℕ) → Option (Vec Lit Global) → Type 0
IsSettlement proves x e before old y f after new None =
    Goes proves x e before old y f after new × (after.spent ≡ after.limit)
IsSettlement proves x e before old y f after new (Some ends) =
    AllSettle proves x e before old y f after new ends.items
