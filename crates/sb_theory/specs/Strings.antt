-- What the theory has taken in of a trail, and what its lines make of a proof.
use Rattle.std.specs.Prelude.{◌≡◌, ◌≢◌, ◌⊎◌, ℕ, ◌+◌, ◌<◌, ◌≤◌, Bool, true, false, List, [], ◌++◌, filter, length, take, Option, Some, None, Result, IfOk}
use Rattle.sb_theory.specs.Words.{AllKept, AreLevelled, Ask, Asked, Assigned, AtomOver, Fine, HaveRegexesBelow, IsStore, Kept, Lemma, Lit, Names, Piece, Regex, RegexesGrow, Serial, Spent, Traced, Tracks, Written, atoms_in, held, in_atom, kept_behind, list_all, regex_at, written}
use Rattle.sb_lit.specs.Budgets.{Spending}
use Rattle.sb_lit.specs.Clauses.{is_false_clause, is_true_under}
use Rattle.sb_trail.specs.Assignments.{value_of}
use Rattle.sb_clauses.specs.Propagation.{HasNoneFalse}
use Rattle.sb_proof.specs.declared.tape.TapeFault.{TapeFault}
use Rattle.sb_trace.specs.Putting.{Puts, IsCounted, CountsTapeFault, SpendsWithin}
use Rattle.sb_trace.specs.Reaching.{IsReached}
use Rattle.sb_trace.specs.Tracking.{is_expanded_in}
use Rattle.sb_clash.specs.Literals.{AreClashing, AreFewer}
use Rattle.sb_clash.specs.Denials.{IsDenial, IsOfDenial}
use Rattle.sb_search.specs.Asking.{IsFair}
use Rattle.sb_search.specs.declared.theory.Checked.{Checked}
use Rattle.sb_theory.specs.declared.strings.Strings.{Strings}
use Rattle.sb_theory.specs.Memberships.{row_at, is_joined, is_true_by, is_atom, HaveAtoms}
use Rattle.sb_theory.specs.Tables.{AreFormed, TableGrows, are_declared}
use Rattle.sb_theory.specs.Wishes.{IsLeft, IsWish, ungranted}
use Rattle.sb_theory.specs.Wanted.{is_wanted, wanted_on, IsTaught}
use Rattle.sb_theory.specs.Fronts.{number_at, IsWhole, Rises, AreRows}

-- What holds of the theory: its store is right, its atoms are well formed, wanted atoms are noted, the rows are those of
-- the literals of noted atoms that were taken in, and it is known how much of each of them is true of the words; the
-- wanted memberships of several pieces are listed, and noted ones are what is left of wanted ones.
pub record Holds (x : Strings) : Type 0 where
  pub store : IsStore x.store
  pub regexes : HaveRegexesBelow (length x.store.arena) x.atoms
  pub formed : AreFormed x.atoms
  pub noted : list_all (is_atom x.atoms) x.noted ≡ true
  pub among : list_all (is_wanted x.noted) x.wanted ≡ true
  pub rows : AreRows x.store.arena x.atoms x.words.items x.members.items x.fitting.items x.changed
      (wanted_on x.noted x.taken.items)
  pub joined : x.joined.items ≡ filter (is_joined x.atoms) x.wanted
  pub left : (a : ℕ) → is_wanted x.noted a ≡ true → is_joined x.atoms a ≡ true → IsLeft x a

-- What was taken in is the front of the trail.
pub record Stands (x : Strings) (entries : List Assigned) : Type 0 where
  pub holds : Holds x
  pub levelled : AreLevelled 0 x.taken.items
  pub rest : List Assigned
  pub is : entries ≡ x.taken.items ++ rest

-- each literal of a wanted atom on the trail is true of the words
abbrev pub Agrees : Strings → List Assigned → Type 0
Agrees x entries = list_all (is_true_by x.store.arena x.atoms x.words.items) (wanted_on x.wanted entries) ≡ true

-- what stays whatever is asked
pub record Frame : Type 0 where
  pub wanted : List ℕ
  pub proves : Bool

abbrev pub frame_of : Strings → Frame
frame_of x = record { wanted = x.wanted; proves = x.proves }

-- More may be known of regexes, and there may be more atoms; nothing else that others know changes.
pub record Grows (x y : Strings) : Type 0 where
  pub frame : frame_of y ≡ frame_of x
  pub table : TableGrows x.atoms y.atoms
  pub below : HaveRegexesBelow (length x.store.arena) x.atoms
  pub store : RegexesGrow x.store y.store

-- what lines may be about
pub record Tables : Type 0 where
  pub atoms : List (AtomOver ℕ)
  pub trace : Traced
  pub joined : List ℕ
  pub expanded : List ℕ

abbrev pub tables_of : Strings → Tables
tables_of x = record {
  atoms = x.atoms;
  trace = x.trace;
  joined = x.joined.items;
  expanded = x.expanded.keys;
}

-- More may be known of regexes, and no lines are put.
pub record Keeps (x y : Strings) : Type 0 where
  pub grows : Grows x y
  pub tables : tables_of y ≡ tables_of x

-- which atoms are noted, what was taken in, and what is to be looked at
pub record Intake : Type 0 where
  pub noted : List ℕ
  pub entries : List Assigned
  pub rows : List (List Lit)
  pub changed : List Serial

abbrev pub intake_of : Strings → Intake
intake_of x =
    record { noted = x.noted; entries = x.taken.items; rows = x.members.items; changed = x.changed }

-- Words may be put: what was taken in stays, and so do the constants whose rows are to be looked at.
pub record Looks (x y : Strings) : Type 0 where
  pub keeps : Keeps x y
  pub intake : intake_of y ≡ intake_of x

-- no word makes the row of the constant true
abbrev pub HasClash : Strings → ℕ → Type 0
HasClash x constant = AreClashing x.store.arena x.atoms (row_at x.members.items constant)

-- nor so many first literals of it
abbrev pub HasClashIn : ℕ → Strings → ℕ → Type 0
HasClashIn long x constant = AreClashing x.store.arena x.atoms (take long (row_at x.members.items constant))

-- A word was asked for of so many first literals of a constant's row: it is the constant's, or there is none.
pub record IsAsked (long : ℕ) (x y : Strings) (constant : ℕ) (found : Bool) : Type 0 where
  pub holds : Holds y
  pub fits : found ≡ true → number_at y.fitting.items constant ≡ long
  pub clash : found ≡ false → HasClashIn long y constant
  pub rises : Rises x.fitting.items y.fitting.items

-- The next literal behind those that the word is known to make true was tried on it.
pub record IsTriedNext (x y : Strings) (constant : ℕ) (found : Bool) : Type 0 where
  pub holds : Holds y
  pub fits : found ≡ true → number_at y.fitting.items constant ≡ number_at x.fitting.items constant + 1
  pub stays : found ≡ false → y.fitting.items ≡ x.fitting.items
  pub rises : Rises x.fitting.items y.fitting.items

-- The same of the whole row, where no word may be needed.
pub record IsSettled (x y : Strings) (constant : ℕ) (found : Bool) : Type 0 where
  pub holds : Holds y
  pub whole : found ≡ true → IsWhole y.members.items y.fitting.items constant
  pub clash : found ≡ false → HasClash y constant
  pub rises : Rises x.fitting.items y.fitting.items

-- Either all rows fit, or that of this constant has no word.
pub record AreSettled (x y : Strings) (found : Option Serial) : Type 0 where
  pub holds : Holds y
  pub noted : y.noted ≡ x.noted
  pub entries : y.taken.items ≡ x.taken.items
  pub settled : found ≡ None → y.changed ≡ []
  pub clash : (s : Serial) → found ≡ Some s → HasClash y s.0

-- so many first literals of the row have no word
pub record IsFront (y : Strings) (constant long : ℕ) : Type 0 where
  pub holds : Holds y
  pub within : long ≤ length (row_at y.members.items constant)
  pub clash : HasClashIn long y constant

-- a few literals of the row clash
pub record AreFew (y : Strings) (constant : ℕ) (few : List Lit) : Type 0 where
  pub holds : Holds y
  pub fewer : AreFewer few (row_at y.members.items constant)
  pub clash : AreClashing y.store.arena y.atoms few

-- The reader of the proof keeps what the theory knows of regexes and atoms, whose constants are declared, and these
-- clauses, whose atoms it knows.
pub record Backs (asked : Asked) (x : Strings) (kept : AllKept) (proof : Written) : Type 0 where
  pub tracks : Tracks x.store.arena x.store.graph.memo x.trace kept
  pub atoms : kept.atoms ≡ atoms_in x.store.arena x.atoms
  pub declared : are_declared asked.sorts x.atoms ≡ true
  pub clauses : kept.clauses ≡ proof.kept
  pub known : HaveAtoms x.atoms proof.kept
  pub counted : IsCounted asked kept proof.budget

-- A word leads to the regex from that of a membership.
pub record IsOfMembership (rs : List Regex) (atoms : List (AtomOver ℕ)) (n : ℕ) : Type 0 where
  pub number : ℕ
  pub pieces : List Piece
  pub regex : ℕ
  pub names : Names atoms number (in_atom pieces regex)
  pub below : regex < length rs
  pub reached : IsReached rs (regex_at rs regex) n

-- each regex that is expanded in the proof now was so before, or is of a denial, or of a membership
abbrev pub ExpandsRelevant : List Regex → List (AtomOver ℕ) → Traced → Traced → Type 0
ExpandsRelevant rs atoms old new = (n : ℕ) → is_expanded_in new n ≡ true
    → (is_expanded_in old n ≡ true) ⊎ (IsOfDenial rs atoms n ⊎ IsOfMembership rs atoms n)

-- Where lines are put, those between the one proof and the other follow; where none are, what stands of regexes in the
-- proof stays. Atoms stay, and new ones are memberships; what is known of regexes stays. New clauses have known atoms,
-- and no regex is expanded to which no word leads from what some clause denies, or from that of a membership.
pub record Writes (x y : Strings) (before after : Written) : Type 0 where
  pub table : TableGrows x.atoms y.atoms
  pub proves : y.proves ≡ x.proves
  pub store : RegexesGrow x.store y.store
  pub below : HaveRegexesBelow (length x.store.arena) x.atoms → HaveRegexesBelow (length y.store.arena) y.atoms
  pub known : HaveAtoms x.atoms before.kept → HaveAtoms y.atoms after.kept
  pub silent : x.proves ≡ false → y.trace ≡ x.trace
  pub only : HaveRegexesBelow (length x.store.arena) x.atoms
      → ExpandsRelevant y.store.arena y.atoms x.trace y.trace
  pub lines : x.proves ≡ true → HaveRegexesBelow (length x.store.arena) x.atoms → (asked : Asked) (kept : AllKept)
      → Backs asked x kept before → (more : AllKept) × Puts asked kept more before.told after.told
      × Backs asked y more after

-- The clause is of memberships of one constant, no word makes it false, and it is false on the trail.
pub record IsDenied (x : Strings) (entries : List Assigned) (constant : ℕ) (clause : List Lit) : Type 0 where
  pub denial : IsDenial x.store.arena x.atoms constant clause
  pub is_false : is_false_clause (held entries) clause ≡ true

-- What a walk has come to: the literal is true on the trail, of a membership that is left of a wanted one, of several
-- pieces or of none, and the words make it false.
pub record IsWrong (x : Strings) (entries : List Assigned) (l : Lit) : Type 0 where
  pub held : is_true_under (held entries) l ≡ true
  pub left : IsLeft x l.atom
  pub joined : is_joined x.atoms l.atom ≡ true
  pub wrong : is_true_by x.store.arena x.atoms x.words.items l ≡ false

-- a lemma spends a step, and all is spent where that is the answer
abbrev pub IsPaid : Spending → Spending → Checked → Type 0
IsPaid before after Fine = Unit {0}
IsPaid before after (Lemma clause) = before.spent < after.spent
IsPaid before after (Ask l) = Unit {0}
IsPaid before after Spent = after.spent ≡ after.limit

-- where no step was spent, no fewer wishes have come true on any trail
abbrev pub IsQuiet : Strings → Strings → Spending → Spending → Type 0
IsQuiet x y before after =
    after.spent ≡ before.spent → (entries : List Assigned) → ungranted y entries ≤ ungranted x entries

-- what the theory asks for is a wish that has not come true
abbrev pub IsWished : Strings → List Assigned → Checked → Type 0
IsWished y entries Fine = Unit {0}
IsWished y entries (Lemma clause) = Unit {0}
IsWished y entries (Ask l) = (value_of entries l.atom ≡ None) × IsWish y l.atom
IsWished y entries Spent = Unit {0}

-- What came of a look so far, with these lines and steps.
pub record IsSofar (x y : Strings) (entries : List Assigned) (before after : Spending) (old new : Option (List ℕ))
    : Type 0
  where
    pub stands : Stands y entries
    pub quiet : IsQuiet x y before after
    pub writes : (kept : Kept) → Writes x y (written kept before old) (written kept after new)

-- What an answer says on a trail; nothing of wishes where all is spent.
pub record Answers (x y : Strings) (entries : List Assigned) (before after : Spending) (old new : Option (List ℕ))
    (last : Bool) (answer : Checked) : Type 0
  where
    pub stands : Stands y entries
    pub agrees : last ≡ true → answer ≡ Fine → Agrees y entries
    pub fair : IsFair (λ atom. is_atom y.atoms atom ≡ true) (IsTaught y.store.arena y.atoms) entries answer
    pub paid : IsPaid before after answer
    pub quiet : answer ≢ Spent → IsQuiet x y before after
    pub wished : IsWished y entries answer
    pub writes : (kept : Kept) → HasNoneFalse kept (held entries)
        → Writes x y (written kept before old) (written (kept_behind kept answer) after new)

-- What a look at a trail leaves, whatever comes of it.
pub record IsLook (x y : Strings) (entries : List Assigned) (before after : Spending) (old new : Option (List ℕ))
    (faults now : ℕ) (last : Bool) (result : Result Checked TapeFault) : Type 0
  where
    pub answers : IfOk result (Answers x y entries before after old new last)
    pub grows : Grows x y
    pub steps : SpendsWithin before after
    pub counts : CountsTapeFault result faults now
