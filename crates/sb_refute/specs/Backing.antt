-- What the evidence of an unsat knows of a proof, and what a reader of the proof keeps.
use Rattle.std.specs.Prelude.{◌≡◌, ◌≢◌, ℕ, ◌<◌, ◌≤◌, true, List, [], ◌∷◌, map, take, slice_get, Option, Some, None, unwrap_or, nat_lt, if◌then◌else◌, Contains}
use Rattle.sb_lang.specs.Regex.{Regex}
use Rattle.sb_lit.specs.Budgets.{Spending}
use Rattle.sb_lit.specs.Kept.{Kept, KeptClause, kept_at, kept_up_to}
use Rattle.sb_lit.specs.declared.clause.Lit.{Lit}
use Rattle.sb_meaning.specs.Terms.{Term}
use Rattle.sb_deriv.specs.Faithful.{Memo}
use Rattle.sb_rulebook.specs.Atoms.{AtomOver}
use Rattle.sb_script.specs.Fragment.{is_decided}
use Rattle.sb_rulebook.specs.Kept.{AllKept, Asked}
use Rattle.sb_script.specs.State as state
use Rattle.sb_atoms.specs.Numbered.{Names, atoms_in}
use Rattle.sb_atoms.specs.Translated.{has_declared}
use Rattle.sb_atoms.specs.GateClauses.{gate_clauses}
use Rattle.sb_trace.specs.Putting.{Puts, IsCounted}
use Rattle.sb_trace.specs.Tracking.{Traced, Tracks}
use Rattle.sb_refute.specs.declared.evidence.Asserted.{Asserted}
use Rattle.sb_refute.specs.declared.evidence.EmptyClause.{EmptyClause}
use Rattle.sb_refute.specs.declared.evidence.Parts.{Parts}

-- what of regexes, atoms and clauses stands in a proof
pub record Backing : Type 0 where
  pub trace : Traced
  -- by number, with the numbers of their regexes in the arena
  pub atoms : List (AtomOver ℕ)
  -- by number
  pub kept : Kept
  -- by the places of live assertions
  pub asserted : List (Option Asserted)
  -- the empty clause
  pub refuted : Option EmptyClause
  -- of so many atoms, the first ones, the clauses of their gates are kept
  pub gates : ℕ

-- what the parts of an evidence are together
abbrev pub backing_of : Parts → Backing
backing_of parts = record {
  trace = parts.trace;
  atoms = parts.atoms;
  kept = parts.engine.kept;
  asserted = parts.asserted.items;
  refuted = parts.refuted;
  gates = parts.gates;
}

-- the clause of the assertion at a place, none where it has none
abbrev pub asserted_at : List (Option Asserted) → ℕ → Option Asserted
asserted_at asserted place = unwrap_or (slice_get asserted place) None

-- an assertion's one literal, on the assertion's level
abbrev pub unit_at : Asserted → KeptClause
unit_at a = record { literals = a.literal ∷ []; level = a.level }

abbrev pub empty_at : EmptyClause → KeptClause
empty_at empty = record { literals = []; level = empty.level }

-- each clause of the gates of the atom is kept, at level 0
abbrev pub HasGatesOf : ℕ → List (AtomOver ℕ) → Kept → Type 0
HasGatesOf i atoms kept = (a : AtomOver ℕ) (clause : List Lit) → Names atoms i a → Contains (gate_clauses i a) clause
    → (id : ℕ) × (kept_at kept id ≡ Some (record { literals = clause; level = 0 }))

-- the same of the atoms below the number
abbrev pub HasGates : ℕ → List (AtomOver ℕ) → Kept → Type 0
HasGates gates atoms kept = (i : ℕ) → i < gates → HasGatesOf i atoms kept

-- it is a kept clause without literals of the lowest level; none only where each kept clause has some
abbrev pub IsLowestEmpty : Kept → Option EmptyClause → Type 0
IsLowestEmpty kept None = (id : ℕ) (clause : KeptClause) → kept_at kept id ≡ Some clause → clause.literals ≢ []
IsLowestEmpty kept (Some empty) = (kept_at kept empty.clause.0 ≡ Some (empty_at empty))
    × ((id : ℕ) (clause : KeptClause) → kept_at kept id ≡ Some clause → clause.literals ≡ []
    → empty.level ≤ clause.level)

-- The reader keeps the regexes, the atoms and the clauses of the evidence, among them that of each assertion that was
-- put.
pub record Backs (rs : List Regex) (memo : Memo) (e : Backing) (kept : AllKept) : Type 0 where
  pub tracks : Tracks rs memo e.trace kept
  pub atoms : kept.atoms ≡ atoms_in rs e.atoms
  pub clauses : kept.clauses ≡ e.kept
  pub asserted : (place : ℕ) (a : Asserted) → asserted_at e.asserted place ≡ Some a
      → kept_at e.kept a.clause.0 ≡ Some (unit_at a)

-- Lines were put that follow, and the reader keeps what the evidence knows behind them.
pub record Evidences (asked : Asked) (before : AllKept) (rs : List Regex) (memo : Memo) (e : Backing)
    (budget : Spending) (old new : Option (List ℕ)) : Type 0
  where
    pub after : AllKept
    pub puts : Puts asked before after old new
    pub backs : Backs rs memo e after
    pub counts : IsCounted asked after budget

-- the same where no line was counted
pub record EvidencesUncounted (asked : Asked) (before : AllKept) (rs : List Regex) (memo : Memo) (e : Backing)
    (old new : Option (List ℕ)) : Type 0
  where
    pub after : AllKept
    pub puts : Puts asked before after old new
    pub backs : Backs rs memo e after
    pub counted : after.counted ≡ before.counted

-- The term is the live assertion of the place, on this level, which is decided, and the constants in it are declared.
pub record IsStatement (asked : Asked) (place : ℕ) (t : Term) (level : ℕ) : Type 0 where
  pub live : slice_get asked.live place ≡ Some (Some t, level)
  pub decided : is_decided (state.asserted t) ≡ true
  pub declared : has_declared asked.sorts t ≡ true

-- the clauses of assertions stay
abbrev pub KeepsAsserted : Backing → Backing → Type 0
KeepsAsserted old new = (place : ℕ) (a : Asserted) → asserted_at old.asserted place ≡ Some a
    → asserted_at new.asserted place ≡ Some a

-- Levels that are left.

-- the clauses of assertions before the place are of levels up to this one
abbrev pub AreUpTo : ℕ → ℕ → List (Option Asserted) → Type 0
AreUpTo level count asserted = (place : ℕ) (a : Asserted) → place < count → asserted_at asserted place ≡ Some a
    → a.level ≤ level

-- the empty clause, unless it is above the level
abbrev pub refuted_up_to : ℕ → Option EmptyClause → Option EmptyClause
refuted_up_to level None = None
refuted_up_to level (Some empty) = if nat_lt level empty.level then None else Some empty

-- the clauses up to the level stay, and the assertions before the place; the empty clause unless it is above the level
abbrev pub left_above : ℕ → ℕ → Backing → Backing
left_above level count e = record e {
  kept = kept_up_to level e.kept;
  asserted = take count e.asserted;
  refuted = refuted_up_to level e.refuted;
}

-- no clause stays
abbrev pub left_all : Backing → Backing
left_all e = record e { kept = map (λ clause. None) e.kept; asserted = []; refuted = None; gates = 0 }
