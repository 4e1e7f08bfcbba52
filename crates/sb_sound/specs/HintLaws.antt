-- Learned clauses are true where the clauses that their hints name are, and which clauses are learned.
use Rattle.std.specs.Prelude.{◌≡◌, ◌≢◌, ◌↔◌, ℕ, ◌<◌, ◌≤◌, Bool, true, false, not, List, [], ◌∷◌, map, Some, Ok, Contains}
use Rattle.std.specs.List.{list_any}
use Rattle.sb_lit.specs.declared.clause.Lit.{Lit}
use Rattle.sb_lit.specs.Clauses.{negation}
use Rattle.sb_lit.specs.Kept.{Kept, KeptClause, kept_at}
use Rattle.sb_lit.specs.Hints.{learned}

-- one of the two signs of an atom is true
abbrev pub IsAssignment : (Lit → Bool) → Type 0
IsAssignment holds = (l : Lit) → holds (negation l) ≡ not (holds l)

-- each clause that the numbers name is true
abbrev pub AreTrue : (Lit → Bool) → Kept → List ℕ → Type 0
AreTrue holds kept ids = (id : ℕ) (clause : KeptClause) → Contains ids id → kept_at kept id ≡ Some clause
    → list_any holds clause.literals ≡ true

abbrev pub LearnedHolds : Type 0
LearnedHolds = (holds : Lit → Bool) → IsAssignment holds → (kept : Kept) (clause : List Lit) (ids : List ℕ) (level : ℕ)
    → learned kept clause ids ≡ Ok level → AreTrue holds kept ids → list_any holds clause ≡ true

abbrev pub LearnedHasLevels : Type 0
LearnedHasLevels = (kept : Kept) (clause : List Lit) (ids : List ℕ) (level : ℕ) → learned kept clause ids ≡ Ok level
    → (id : ℕ) (hint : KeptClause) → Contains ids id → kept_at kept id ≡ Some hint → hint.level ≤ level

-- the hints are the kept clauses of these numbers
abbrev pub AreNamed : Kept → List ℕ → List KeptClause → Type 0
AreNamed kept [] [] = Unit {0}
AreNamed kept (id ∷ ids) (hint ∷ hints) = (kept_at kept id ≡ Some hint) × AreNamed kept ids hints
AreNamed kept _ _ = ⊥

-- where some literals are held true: each literal of the clause is false
abbrev pub IsFalse : List Lit → List Lit → Type 0
IsFalse held clause = (l : Lit) → Contains clause l → Contains held (negation l)

-- the clause leaves this literal open, and each other one is false
pub record LeavesOpen (held clause : List Lit) (l : Lit) : Type 0 where
  pub within : Contains clause l
  pub not_true : Contains held l → ⊥
  pub not_false : Contains held (negation l) → ⊥
  pub others : (m : Lit) → Contains clause m → m ≢ l → Contains held (negation m)

-- In order each hint leaves one literal open, which is held true from then on, and the last hint is false.
abbrev pub Refutes : List Lit → List KeptClause → Type 0
Refutes held [] = ⊥
Refutes held (hint ∷ []) = IsFalse held hint.literals
Refutes held (hint ∷ next ∷ hints) = (l : Lit) × LeavesOpen held hint.literals l × Refutes (l ∷ held) (next ∷ hints)

-- the literal is of a lower atom, or the positive one of the same atom
pub data StandsBefore (l m : Lit) : Type 0 where
  by_atom : l.atom < m.atom → StandsBefore l m
  by_sign : l.atom ≡ m.atom → l.positive ≡ true → m.positive ≡ false → StandsBefore l m

-- each stands before the next, so no literal stands twice
abbrev pub Ascend : List Lit → Type 0
Ascend [] = Unit {0}
Ascend (l ∷ []) = Unit {0}
Ascend (l ∷ m ∷ ls) = StandsBefore l m × Ascend (m ∷ ls)

-- the level of one of the clauses, and no other one's is above it
pub record IsGreatestLevel (hints : List KeptClause) (level : ℕ) : Type 0 where
  pub hint : KeptClause
  pub among : Contains hints hint
  pub is : hint.level ≡ level
  pub none_above : (other : KeptClause) → Contains hints other → other.level ≤ level

-- no kept clause is a subset of the clause
abbrev pub HasNoSubset : Kept → List Lit → Type 0
HasNoSubset kept clause = (id : ℕ) (other : KeptClause) → kept_at kept id ≡ Some other
    → ((l : Lit) → Contains other.literals l → Contains clause l) → ⊥

-- The hints are kept clauses, and refute the clause's negated literals; no kept clause is a subset; the literals
-- ascend; and the level is the greatest of the hints.
pub record IsByHints (kept : Kept) (clause : List Lit) (ids : List ℕ) (level : ℕ) : Type 0 where
  pub hints : List KeptClause
  pub named : AreNamed kept ids hints
  pub refutes : Refutes (map negation clause) hints
  pub new : HasNoSubset kept clause
  pub ascend : Ascend clause
  pub greatest : IsGreatestLevel hints level

-- the rule accepts these and no others
abbrev pub LearnedIsExact : Type 0
LearnedIsExact = (kept : Kept) (clause : List Lit) (ids : List ℕ) (level : ℕ)
    → (learned kept clause ids ≡ Ok level) ↔ IsByHints kept clause ids level
