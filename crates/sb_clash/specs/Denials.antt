-- What is put for the clause of some memberships of one constant.
use Rattle.std.specs.Prelude.{◌≡◌, ◌≢◌, ◌⊎◌, ℕ, ◌<◌, Bool, true, false, if◌then◌else◌, List, [], ◌∷◌, ◌++◌, length, map, Option, Some}
use Rattle.sb_clash.specs.Words.{Ascend, AtomOver, Findings, HasNoSubset, HaveRegexesBelow, Lit, Regex, Traced, Tracks, atoms_in, is_dead_in, negation, regex_at}
use Rattle.sb_lit.specs.Budgets.{Spending}
use Rattle.sb_lit.specs.Kept.{Kept}
use Rattle.sb_rulebook.specs.Kept.{AllKept, Asked}
use Rattle.sb_trace.specs.Putting.{Puts, IsCounted}
use Rattle.sb_trace.specs.Reaching.{IsReached}
use Rattle.sb_trace.specs.Tracking.{is_expanded_in}
use Rattle.sb_clash.specs.Literals.{AreAbout, AreClashing, asked_by_all}

-- what is kept with the clause, which holds in the whole script
abbrev pub with_denial : Kept → List Lit → Kept
with_denial kept clause = kept ++ Some (record { literals = clause; level = 0 }) ∷ []

-- the regex in which the constant's word is where all literals of a clause are false
abbrev pub denied_by : List Regex → List (AtomOver ℕ) → List Lit → Regex
denied_by rs atoms clause = asked_by_all rs atoms (map negation clause)

-- The clause is of memberships of one constant, in order, and no word makes it false.
pub record IsDenial (rs : List Regex) (atoms : List (AtomOver ℕ)) (x : ℕ) (clause : List Lit) : Type 0 where
  pub about : AreAbout atoms x clause
  pub clash : AreClashing rs atoms (map negation clause)
  pub some : clause ≢ []
  pub ascend : Ascend clause

-- A word leads to the regex from what some clause denies.
pub record IsOfDenial (rs : List Regex) (atoms : List (AtomOver ℕ)) (n : ℕ) : Type 0 where
  pub regexes : HaveRegexesBelow (length rs) atoms
  pub constant : ℕ
  pub clause : List Lit
  pub denial : IsDenial rs atoms constant clause
  pub reached : IsReached rs (denied_by rs atoms clause) n

-- each regex that is expanded in the proof now was so before, or is of a denial
abbrev pub ExpandsDenied : List Regex → List (AtomOver ℕ) → Traced → Traced → Type 0
ExpandsDenied rs atoms old new =
    (n : ℕ) → is_expanded_in new n ≡ true → (is_expanded_in old n ≡ true) ⊎ IsOfDenial rs atoms n

-- a proof so far: regexes, what is known and traced of them, the budget, and what the tape tells
pub record Sofar : Type 0 where
  pub regexes : List Regex
  pub graph : Findings
  pub trace : Traced
  pub budget : Spending
  pub told : Option (List ℕ)

abbrev pub sofar : List Regex → Findings → Traced → Spending → Option (List ℕ) → Sofar
sofar rs graph t budget told = record { regexes = rs; graph = graph; trace = t; budget = budget; told = told }

-- The intersection of what a clause's negations ask for is dead in a proof.
pub record CanBeDenied (rs : List Regex) (t : Traced) (atoms : List (AtomOver ℕ)) (clause : List Lit) : Type 0 where
  pub constant : ℕ
  pub about : AreAbout atoms constant clause
  pub some : clause ≢ []
  pub ascend : Ascend clause
  pub meet : ℕ
  pub meets : regex_at rs meet ≡ denied_by rs atoms clause
  pub dead : is_dead_in t meet ≡ true

-- Lines were put that follow; behind them the reader keeps what the trace knows, and the clause where it was put.
pub record Denies (asked : Asked) (before : AllKept) (old : Option (List ℕ)) (now : Sofar) (atoms : List (AtomOver ℕ))
    (clause : List Lit) (done : Bool) : Type 0
  where
    pub after : AllKept
    pub puts : Puts asked before after old now.told
    pub tracks : Tracks now.regexes now.graph.memo now.trace after
    pub atoms_stay : after.atoms ≡ atoms_in now.regexes atoms
    pub clauses : after.clauses ≡ (if done then with_denial before.clauses clause else before.clauses)
    pub counts : IsCounted asked after now.budget

-- so it is for each reader who keeps what the trace knows, and of the clause no part
abbrev pub Denying : Sofar → Sofar → List (AtomOver ℕ) → List Lit → Bool → Type 0
Denying old new atoms clause done = (asked : Asked) (before : AllKept)
    → Tracks old.regexes old.graph.memo old.trace before → before.atoms ≡ atoms_in old.regexes atoms
    → HasNoSubset before.clauses clause → IsCounted asked before old.budget
    → Denies asked before old.told new atoms clause done

-- A step was spent, or all are.
pub record Ticks (old new : Spending) (done : Bool) : Type 0 where
  pub more : done ≡ true → old.spent < new.spent
  pub spent : done ≡ false → new.spent ≡ new.limit
