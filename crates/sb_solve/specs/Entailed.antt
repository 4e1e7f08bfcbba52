-- What kept clauses follow from: the live assertions of their levels.
use Rattle.std.specs.Prelude.{◌≡◌, ℕ, true, false, List, [], ◌∷◌, ◌++◌, length, Some, Contains}
use Rattle.sb_solve.specs.Words.{AreRefuted, Asked, Atom, AtomOver, Extends, FollowsByLevel, HasSorts, HasWords, HaveRegexesBelow, IsValid, Kept, KeptClause, Lit, Regex, Term, Valuation, atoms_in, clause_holds, fits_sorts, is_table, kept_at, kept_up_to, list_all, literal_holds, translation, truths_of}
use Rattle.sb_rulebook.specs.AtomRules.{are_known}
use Rattle.sb_rulebook.specs.Gates.{is_gate}
use Rattle.sb_sound.specs.SoundLaws.{LevelsHold, Continues, GoesOn}

-- Each kept clause is true under every valuation that makes the live assertions up to its level true.
abbrev pub AreEntailed : Asked → List Atom → Kept → Type 0
AreEntailed asked atoms kept =
    (id : ℕ) (clause : KeptClause) → kept_at kept id ≡ Some clause → (v : Valuation) → HasWords v
    → HasSorts v asked.sorts → LevelsHold v asked.live clause.level → clause_holds v atoms clause.literals ≡ true

-- with a clause at its level
abbrev pub with_clause : Kept → List Lit → ℕ → Kept
with_clause kept literals level = kept ++ Some (record { literals = literals; level = level }) ∷ []

-- At first nothing is kept.
abbrev pub NoneAreEntailed : Type 0
NoneAreEntailed = (asked : Asked) (atoms : List Atom) → AreEntailed asked atoms []

-- the literal of a live assertion is kept at its level
abbrev pub AssertedIsEntailed : Type 0
AssertedIsEntailed = (asked : Asked) (atoms : List Atom) (kept : Kept) (t : Term) (level : ℕ) (l : Lit)
    → AreEntailed asked atoms kept → Contains asked.live (Some t, level) → fits_sorts asked.sorts t ≡ true
    → is_table atoms ≡ true → translation atoms t ≡ Some l
    → AreEntailed asked atoms (with_clause kept (l ∷ []) level)

-- a clause of a gate is kept
abbrev pub GateIsEntailed : Type 0
GateIsEntailed = (asked : Asked) (atoms : List Atom) (kept : Kept) (clause : List Lit) (level : ℕ)
    → AreEntailed asked atoms kept → is_table atoms ≡ true → is_gate atoms clause ≡ true
    → AreEntailed asked atoms (with_clause kept clause level)

-- a search keeps what follows level by level
abbrev pub SearchedAreEntailed : Type 0
SearchedAreEntailed = (asked : Asked) (rs : List Regex) (atoms : List (AtomOver ℕ)) (old new : Kept)
    → AreEntailed asked (atoms_in rs atoms) old → FollowsByLevel (IsValid rs atoms) old new
    → AreEntailed asked (atoms_in rs atoms) new

-- the script goes on, and no assertion is lost
abbrev pub ContinuedAreEntailed : Type 0
ContinuedAreEntailed = (before now : Asked) (atoms : List Atom) (kept : Kept) → Continues before now
    → AreEntailed before atoms kept → AreEntailed now atoms kept

-- the levels above one are left
abbrev pub DroppedAreEntailed : Type 0
DroppedAreEntailed = (level : ℕ) (before now : Asked) (atoms : List Atom) (kept : Kept) → GoesOn level before now
    → AreEntailed before atoms kept → AreEntailed now atoms (kept_up_to level kept)

-- there are more atoms
abbrev pub EntailedOverMore : Type 0
EntailedOverMore = (asked : Asked) (atoms more : List Atom) (kept : Kept)
    → ((id : ℕ) (clause : KeptClause) → kept_at kept id ≡ Some clause → are_known atoms clause.literals ≡ true)
    → AreEntailed asked atoms kept → AreEntailed asked (atoms ++ more) kept

-- there are more regexes
abbrev pub EntailedInLarger : Type 0
EntailedInLarger = (asked : Asked) (old new : List Regex) (atoms : List (AtomOver ℕ)) (kept : Kept)
    → Extends old new → HaveRegexesBelow (length old) atoms → AreEntailed asked (atoms_in old atoms) kept
    → AreEntailed asked (atoms_in new atoms) kept

-- Where a search refutes assumptions, no valuation makes them true with the live assertions,
abbrev pub RefutedAreFalse : Type 0
RefutedAreFalse = (asked : Asked) (rs : List Regex) (atoms : List (AtomOver ℕ)) (kept : Kept) (assumptions : List Lit)
    → AreEntailed asked (atoms_in rs atoms) kept → AreRefuted (IsValid rs atoms) kept assumptions → (v : Valuation)
    → HasWords v → HasSorts v asked.sorts → ((level : ℕ) → LevelsHold v asked.live level)
    → list_all (literal_holds (truths_of v (atoms_in rs atoms))) assumptions ≡ false

-- and where there are no assumptions, none makes the live assertions true.
abbrev pub RefutedAreContradicted : Type 0
RefutedAreContradicted = (asked : Asked) (rs : List Regex) (atoms : List (AtomOver ℕ)) (kept : Kept)
    → AreEntailed asked (atoms_in rs atoms) kept → AreRefuted (IsValid rs atoms) kept [] → (v : Valuation)
    → HasWords v → HasSorts v asked.sorts → ((level : ℕ) → LevelsHold v asked.live level) → ⊥
