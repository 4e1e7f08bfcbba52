-- Private: a search over the evidence and the tables, from its beginning to its answer.
use Rattle.std.specs.Prelude.{◌≡◌, ◌≤◌, ℕ, Bool, true, false, List, [], length, Option}
use Rattle.sb_solve.specs.Words.{AllKept, AreDistinct, Asked, AtomOver, Backing, Backs, EmptyClause, Evidences, FollowsByLevel, HaveAtoms, HaveRegexesBelow, IsCounted, IsValid, Kept, Lit, Regex, RegexesGrow, Spending, Stacked, Stand, Stands, Store, TableGrows, are_atoms, are_declared, atoms_in, is_atom, is_table, is_true_by, list_all, state_of, wanted_on}
use Rattle.sb_clauses.specs.Propagation.{State}
use Rattle.sb_analyze.specs.Cores.{IsKeptCore}
use Rattle.sb_search.specs.Found.{GrowsTo, IsFull}
use Rattle.sb_solve.specs.Answered.{IsAnswered}
use Rattle.sb_solve.specs.Solved.{AreTrueUnder}
use Rattle.sb_solve.specs.Values.{are_words_there}
use Rattle.sb_solve.specs.Wanted.{AreWanted}
use Rattle.sb_solve.specs.declared.check.Solved.{Solved}
use Rattle.sb_solve.specs.declared.check.Solved.TheVariants as solved
use Rattle.sb_solve.specs.declared.searching.Tables.{Tables}

-- what the evidence knows whose tables these are
abbrev pub backing_in : Tables → Backing
backing_in t = record {
  trace = t.strings.trace;
  atoms = t.strings.atoms;
  kept = t.engine.kept;
  asserted = t.asserted.items;
  refuted = t.refuted;
  gates = t.gates;
}

-- They are taken from these, and the theory over them has taken in nothing.
pub record AreTaken (x : Store) (e : Backing) (atoms : List ℕ) (on : Bool) (t : Tables) : Type 0 where
  pub stands : Stands t.strings []
  pub stand : Stand e
  pub backing : backing_in t ≡ e
  pub store : t.strings.store ≡ x
  pub wanted : t.strings.wanted ≡ atoms
  pub proves : t.strings.proves ≡ on
  pub trail : t.engine.trail.literals ≡ []
  pub first : t.before ≡ length e.kept

-- where the table is one, and the literals are of its atoms, so is what is wanted
abbrev pub AreAmong : List (AtomOver ℕ) → List Lit → List ℕ → Type 0
AreAmong atoms literals wanted = (rs : List Regex) → is_table (atoms_in rs atoms) ≡ true
    → are_atoms atoms literals ≡ true → list_all (is_atom atoms) wanted ≡ true

-- What is known of regexes grows, atoms stay, and new ones are memberships; clauses stay, and new ones follow from
-- these and from what is true of words, level by level. Where lines are put, those for the new atoms and clauses follow
-- if constants are declared, and where none are, what stands of regexes in the proof stays. The budget keeps its limit,
-- and no step of it comes back.
pub record IsSearched (proves : Bool) (x : Store) (e : Backing) (before : Spending) (old : Option (List ℕ))
    (y : Store) (f : Backing) (after : Spending) (new : Option (List ℕ)) : Type 0
  where
    pub store : RegexesGrow x y
    pub regexes : HaveRegexesBelow (length y.arena) f.atoms
    pub atoms : TableGrows e.atoms f.atoms
    pub asserted : f.asserted ≡ e.asserted
    pub kept : GrowsTo e.kept f.kept
    pub known : HaveAtoms f.atoms f.kept
    pub follows : FollowsByLevel (IsValid y.arena f.atoms) e.kept f.kept
    pub silent : proves ≡ false → f.trace ≡ e.trace
    pub limit : after.limit ≡ before.limit
    pub spends : before.spent ≤ after.spent
    pub puts : proves ≡ true → (asked : Asked) (kept : AllKept) → are_declared asked.sorts e.atoms ≡ true
        → Backs x.arena x.graph.memo e kept → IsCounted asked kept before
        → Evidences asked kept y.arena y.graph.memo f after old new

-- The words are words of characters, and where the end of the search is an answer about the assertions at some places
-- and the assumptions, these are true of the words and the truth values.
pub record IsModel (s : Stacked) (rs : List Regex) (atoms : List (AtomOver ℕ)) (wanted : List ℕ) (search : State)
    (theory words : List (Option (List ℕ))) (truths : List Bool) : Type 0
  where
    pub characters : are_words_there words ≡ true
    pub given : (places : List ℕ) (literals assumed : List Lit) (kept : Kept)
        → IsAnswered rs atoms wanted literals assumed kept search.trail.literals theory places (state_of s)
        s.assumptions
        → AreTrueUnder s places words truths

abbrev pub HasModel : Stacked → Tables → List (Option (List ℕ)) → List Bool → Type 0
HasModel s t = IsModel s t.strings.store.arena t.strings.atoms t.strings.wanted t.engine t.strings.words.items

-- The search ended with a value for each atom that is wanted, which the theory's words bear out, and with the literals
-- of the assumptions.
pub record IsValuedBy (s : Stacked) (assumed : List Lit) (rs : List Regex) (atoms : List (AtomOver ℕ)) (kept : Kept)
    (wanted : List ℕ) (words : List (Option (List ℕ))) (truths : List Bool) : Type 0
  where
    pub search : State
    pub theory : List (Option (List ℕ))
    pub keeps : search.kept ≡ kept
    pub full : IsFull wanted assumed search
    pub agrees : list_all (is_true_by rs atoms theory) (wanted_on wanted search.trail.literals) ≡ true
    pub model : IsModel s rs atoms wanted search theory words truths

-- what the answer says under assumptions of these literals
abbrev pub Answers : Stacked → List Lit → List Regex → List (AtomOver ℕ) → Kept → List ℕ → Spending → Solved → Type 0
Answers s assumed rs atoms kept wanted budget (solved.Sat words truths) =
    IsValuedBy s assumed rs atoms kept wanted words.items truths.items
Answers s assumed rs atoms kept wanted budget (solved.Unsat id) = IsKeptCore kept assumed id.0
Answers s assumed rs atoms kept wanted budget solved.Spent = budget.spent ≡ budget.limit

-- What a search makes of the tables, whatever empty clause the evidence has then.
pub record Runs (s : Stacked) (assumed : List Lit) (b : Tables) (before : Spending) (old : Option (List ℕ)) (c : Tables)
    (after : Spending) (new : Option (List ℕ)) (solved : Solved) : Type 0
  where
    pub searched : (refuted : Option EmptyClause) → IsSearched b.strings.proves b.strings.store (backing_in b) before
        old c.strings.store (record (backing_in c) { refuted = refuted }) after new
    pub answers : Answers s assumed c.strings.store.arena c.strings.atoms c.engine.kept b.strings.wanted after solved
    pub refuted_stays : c.refuted ≡ b.refuted
    pub gates_stay : c.gates ≡ b.gates
    pub first_stays : c.before ≡ b.before

-- What comes of it, over the evidence and the store where they lie.
pub record IsDone (s : Stacked) (literals assumed : List Lit) (proves : Bool) (x : Store) (e : Backing)
    (before : Spending) (old : Option (List ℕ)) (y : Store) (f : Backing) (after : Spending) (new : Option (List ℕ))
    (solved : Solved) : Type 0
  where
    pub stand : Stand e
    pub searched : IsSearched proves x e before old y f after new
    pub wanted : List ℕ
    pub distinct : AreDistinct f.atoms
    pub closed : AreWanted e.atoms literals wanted
    pub known : list_all (is_atom e.atoms) wanted ≡ true
    pub answers : Answers s assumed y.arena f.atoms f.kept wanted after solved
