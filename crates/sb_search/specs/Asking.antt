-- What a search asks of a theory, and what an answer says.
use Rattle.std.specs.Prelude.{◌≡◌, ℕ, ◌+◌, ◌<◌, ◌≤◌, true, List, [], ◌∷◌, ◌++◌, Some, None, Result, Ok, Err}
use Rattle.sb_lit.specs.declared.clause.Lit.{Lit}
use Rattle.sb_lit.specs.Clauses.{is_among}
use Rattle.sb_lit.specs.Kept.{Kept, KeptClause, kept_at}
use Rattle.sb_trail.specs.declared.assigned.Assigned.{Assigned}
use Rattle.sb_trail.specs.Assignments.{value_of, current_level, up_to}
use Rattle.sb_proof.specs.declared.tape.TapeFault.{TapeFault}
use Rattle.sb_proof.specs.declared.tape.TapeFault.TheVariants as fault
use Rattle.sb_proof.specs.Tapes.{Rose}
use Rattle.sb_search.specs.declared.theory.Checked.{Checked}
use Rattle.sb_search.specs.declared.theory.Checked.TheVariants as checked

-- a number that is to fall, of what is kept and what is true
abbrev pub Measure : Type 0
Measure = Kept → List Assigned → ℕ

-- the trail behind a decision
abbrev pub decided : List Assigned → Lit → List Assigned
decided entries l = entries ++ record { literal = l; level = current_level entries + 1; reason = None } ∷ []

-- what is kept with a lemma
abbrev pub with_lemma : Kept → List Lit → Kept
with_lemma kept clause = kept ++ Some (record { literals = clause; level = 0 }) ∷ []

-- the atom of each literal is known
abbrev pub AreKnown : (ℕ → Type 0) → List Lit → Type 0
AreKnown passes literals = (l : Lit) → is_among literals l ≡ true → passes l.atom

-- so it is with those of kept clauses
abbrev pub AreAllKnown : (ℕ → Type 0) → Kept → Type 0
AreAllKnown passes kept =
    (id : ℕ) (clause : KeptClause) → kept_at kept id ≡ Some clause → AreKnown passes clause.literals

-- the atoms of kept clauses and those of assumptions are known
pub record HasKnownAtoms (passes : ℕ → Type 0) (kept : Kept) (assumptions : List Lit) : Type 0 where
  pub clauses : AreAllKnown passes kept
  pub assumed : AreKnown passes assumptions

-- A lemma is a clause that is taught, and the atom of a wish has no value; their atoms are known.
abbrev pub IsFair : (ℕ → Type 0) → (List Lit → Type 0) → List Assigned → Checked → Type 0
IsFair passes teaches entries checked.Fine = Unit {0}
IsFair passes teaches entries (checked.Lemma clause) = AreKnown passes clause × teaches clause
IsFair passes teaches entries (checked.Ask l) = (value_of entries l.atom ≡ None) × passes l.atom
IsFair passes teaches entries checked.Spent = Unit {0}

-- The measure falls over a lemma with the levels that are taken back for it, however many, and over the decision of a
-- literal that is asked for; it does not rise else.
abbrev pub Falls : Measure → Measure → Kept → List Assigned → Checked → Type 0
Falls old new kept entries checked.Fine = new kept entries ≤ old kept entries
Falls old new kept entries (checked.Lemma clause) = (level : ℕ)
    → new (with_lemma kept clause) (up_to level entries) < old kept entries
Falls old new kept entries (checked.Ask l) = (new kept entries ≤ old kept entries)
    × (new kept (decided entries l) < old kept entries)
Falls old new kept entries checked.Spent = Unit {0}

-- only a fault of the tape raises its count of faults, and a fault does
abbrev pub CountsFaults : {A : Type 0} → Result A TapeFault → ℕ → ℕ → Type 0
CountsFaults (Ok x) old new = new ≡ old
CountsFaults (Err fault.Fault) old new = Rose old new
CountsFaults (Err fault.NoMemory) old new = new ≡ old
