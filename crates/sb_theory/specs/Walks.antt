-- Private: what walks along the pieces of memberships come to.
use Rattle.std.specs.Prelude.{◌≡◌, ◌≢◌, ℕ, ◌<◌, ◌≤◌, Bool, true, false, not, List, [], ◌∷◌, length, slice_get, is_some, ◌&&◌, Option, Some, None, option_map, Result, IfOk}
use Rattle.std.specs.List.{count_by, Contains}
use Rattle.sb_theory.specs.Words.{Ascend, Assigned, AtomOver, Lit, Names, Piece, Regex, Serial, atoms_in, constant_piece, held, in_atom, nd_along, regex_at}
use Rattle.sb_lit.specs.Budgets.{Spending}
use Rattle.sb_lit.specs.Clauses.{is_false_clause, is_false_under, is_true_under, value_under}
use Rattle.sb_trail.specs.Assignments.{value_of}
use Rattle.sb_proof.specs.declared.tape.TapeFault.{TapeFault}
use Rattle.sb_sound.specs.MembershipLaws.{IsStep}
use Rattle.sb_trace.specs.Putting.{CountsTapeFault, SpendsWithin}
use Rattle.sb_trace.specs.declared.trace.Expand.{Expand}
use Rattle.sb_trace.specs.declared.trace.Expand.TheVariants as expand
use Rattle.sb_split.specs.declared.stepping.Step.{Step}
use Rattle.sb_theory.specs.Memberships.{are_atoms, is_atom, is_joined, subject_of, word_at}
use Rattle.sb_theory.specs.Strings.{Grows, IsSofar, IsWrong, Keeps, Stands}
use Rattle.sb_theory.specs.Wanted.{is_wanted}
use Rattle.sb_theory.specs.Wishes.{IsLeft, IsWish, bases_of}
use Rattle.sb_theory.specs.declared.strings.Strings.{Strings}
use Rattle.sb_theory.specs.declared.strings.walking.Walked.{Walked}
use Rattle.sb_theory.specs.declared.strings.walking.Walked.TheVariants as walked

-- the first of several pieces, where it is a constant, with the regex
abbrev pub leading_in : AtomOver ℕ → Option (ℕ × ℕ)
leading_in (in_atom (constant_piece x ∷ p ∷ ps) r) = Some (x, r)
leading_in _ = None

abbrev pub IsLeading : AtomOver ℕ → Option (Serial × ℕ) → Type 0
IsLeading a found = option_map (λ f. (f.0.0, f.1)) found ≡ leading_in a

-- the number of pieces of a membership
abbrev pub pieces_of : Option (AtomOver ℕ) → ℕ
pieces_of (Some (in_atom ps r)) = length ps
pieces_of _ = 0

abbrev pub pieces_at : Strings → ℕ → ℕ
pieces_at x a = pieces_of (slice_get x.atoms a)

-- so many entries are of atoms that are not noted
abbrev pub unnoted : Strings → List Assigned → ℕ
unnoted x entries = count_by (λ (e : Assigned). not (is_wanted x.noted e.literal.atom)) entries

-- what was taken in, and the words
pub record Rows : Type 0 where
  pub entries : List Assigned
  pub rows : List (List Lit)
  pub changed : List Serial
  pub words : List (Option (List ℕ))
  pub fitting : List ℕ

abbrev pub rows_of : Strings → Rows
rows_of x = record {
  entries = x.taken.items;
  rows = x.members.items;
  changed = x.changed;
  words = x.words.items;
  fitting = x.fitting.items;
}

-- Atoms may come, and lines be put: rows and words stay, and so does each base of wishes; more may be known of regexes.
pub record Widens (x y : Strings) (entries : List Assigned) (before after : Spending) (old new : Option (List ℕ))
    : Type 0
  where
    pub sofar : IsSofar x y entries before after old new
    pub grows : Grows x y
    pub rows : rows_of y ≡ rows_of x
    pub noted : y.noted ≡ x.noted
    pub bases : (n : ℕ) → Contains (bases_of x) n → Contains (bases_of y) n

-- some membership is in the regex
pub record HasMembership (atoms : List (AtomOver ℕ)) (regex : ℕ) : Type 0 where
  pub number : ℕ
  pub pieces : List Piece
  pub names : Names atoms number (in_atom pieces regex)

-- The regex is the one to which the word of a constant leads from a regex, and a base of wishes.
pub record IsLed (y : Strings) (z : ℕ) (r : Regex) (q : ℕ) : Type 0 where
  pub below : q < length y.store.arena
  pub base : Contains (bases_of y) q
  pub is : regex_at y.store.arena q ≡ nd_along r (word_at y.words.items z)

-- where there is one, and else all is spent
abbrev pub IfLed : Strings → ℕ → Regex → Spending → Option ℕ → Type 0
IfLed y z r after None = after.spent ≡ after.limit
IfLed y z r after (Some q) = IsLed y z r q

-- The regex is there, and where the literal's membership begins with a constant and goes on, it is the one to which the
-- constant's word leads, and a base of wishes.
pub record IsBetween (y : Strings) (l : Lit) (q : ℕ) : Type 0 where
  pub below : q < length y.store.arena
  pub leads : (z : ℕ) (p : Piece) (ps : List Piece) (r : ℕ) → Names y.atoms l.atom
      (in_atom (constant_piece z ∷ p ∷ ps) r)
      → IsLed y z (regex_at y.store.arena r) q

-- where there is one, and else all is spent
abbrev pub IfBetween : Strings → Lit → Spending → Option ℕ → Type 0
IfBetween y l after None = after.spent ≡ after.limit
IfBetween y l after (Some q) = IsBetween y l q

-- the regex is expanded, and not all is spent
abbrev pub is_done : Expand → Bool
is_done expand.Spent = false
is_done _ = true

-- the regex is a base of wishes, or all is spent
abbrev pub IsBase : Strings → ℕ → Spending → Bool → Type 0
IsBase y regex after true = Contains (bases_of y) regex
IsBase y regex after false = after.spent ≡ after.limit

-- A regex may be marked as expanded, for which a step is spent; nothing else changes.
pub record Counts (x y : Strings) (before after : Spending) : Type 0 where
  pub is : y ≡ record x { expanded = y.expanded }
  pub stay : (n : ℕ) → Contains x.expanded.keys n → Contains y.expanded.keys n
  pub steps : SpendsWithin before after
  pub quiet : after.spent ≡ before.spent → y.expanded ≡ x.expanded

-- the atom of a number is a membership; and it is in the regex
abbrev pub IsInRegex : List (AtomOver ℕ) → ℕ → Type 0
IsInRegex atoms a = (pieces : List Piece) × ((regex : ℕ) × Names atoms a (in_atom pieces regex))

abbrev pub HasRegex : AtomOver ℕ → ℕ → Type 0
HasRegex (in_atom ps r) regex = regex ≡ r
HasRegex _ regex = ⊥

-- the literal's atom is of one constant and has a value
abbrev pub has_row : List (AtomOver ℕ) → List Assigned → Lit → Bool
has_row atoms entries l = is_some (subject_of atoms l) && is_some (value_of entries l.atom)

-- the literal's atom is noted
abbrev pub IsNoted : Strings → Option Lit → Type 0
IsNoted y None = Unit {0}
IsNoted y (Some l) = is_wanted y.noted l.atom ≡ true

-- the literal's atom is known, and where it is a membership of several pieces, it is what is left of a wanted one
abbrev pub IsNotable : Strings → Option Lit → Type 0
IsNotable x None = Unit {0}
IsNotable x (Some l) = (is_atom x.atoms l.atom ≡ true) × (is_joined x.atoms l.atom ≡ true → IsLeft x l.atom)

-- An atom, or two, may be noted; where one of them is of one constant and has a value, and was not, all is taken back.
-- Else nothing changes beside.
pub record Notes (x y : Strings) (entries : List Assigned) (again : Bool) : Type 0 where
  pub stands : Stands y entries
  pub fewer : unnoted y entries ≤ unnoted x entries
  pub new : again ≡ true → unnoted y entries < unnoted x entries
  pub same : again ≡ false → y ≡ record x { noted = y.noted }
  pub stay : (a : ℕ) → is_wanted x.noted a ≡ true → is_wanted y.noted a ≡ true
  pub keeps : Keeps x y

-- the literal of where a constant leads has no value, or there is none
abbrev pub IsOpenLead : List Assigned → Step → Option Lit → Type 0
IsOpenLead entries step None = (b : Lit) → step.lead ≡ Some b → value_under (held entries) b ≢ None
IsOpenLead entries step (Some l) = (step.lead ≡ Some l) × (value_of entries l.atom ≡ None)

-- What the value of what is left says of where a walk goes.
abbrev pub IsOfRest : List Assigned → Step → Walked → Type 0
IsOfRest entries step (walked.Ask l) =
    (m : Lit) × (step.rest ≡ Some m) × (value_of entries m.atom ≡ None) × (l.atom ≡ m.atom)
IsOfRest entries step (walked.Step clause) = (clause ≡ step.clause)
    × ((m : Lit) → step.rest ≡ Some m → is_false_under (held entries) m ≡ true)
IsOfRest entries step (walked.To l) = (step.rest ≡ Some l) × (is_true_under (held entries) l ≡ true)
IsOfRest entries step walked.Noted = ⊥
IsOfRest entries step walked.Spent = ⊥

-- The clause is one by rule step, in order, and false on the trail.
pub record IsFalseStep (y : Strings) (entries : List Assigned) (clause : List Lit) : Type 0 where
  pub step : IsStep (atoms_in y.store.arena y.atoms) clause
  pub ascend : Ascend clause
  pub some : clause ≢ []
  pub known : are_atoms y.atoms clause ≡ true
  pub is_false : is_false_clause (held entries) clause ≡ true

-- What a walk comes to: the theory may wish for the literal, whose atom has no value; a step is false; it goes on with
-- a
-- literal that is wrong, of fewer pieces than so many; more entries are of atoms that are noted; all is spent.
abbrev pub IsEnd : Strings → Strings → List Assigned → ℕ → Spending → Walked → Type 0
IsEnd x y entries pieces after (walked.Ask l) =
    (value_of entries l.atom ≡ None) × IsWish y l.atom × (is_atom y.atoms l.atom ≡ true)
IsEnd x y entries pieces after (walked.Step clause) = IsFalseStep y entries clause
IsEnd x y entries pieces after (walked.To l) =
    IsWrong y entries l × (pieces_at y l.atom < pieces) × (y.taken.items ≡ entries) × (y.changed ≡ [])
IsEnd x y entries pieces after walked.Noted = unnoted y entries < unnoted x entries
IsEnd x y entries pieces after walked.Spent = after.spent ≡ after.limit

-- the same of one step, which notes nothing and spends nothing
abbrev pub IsWeighed : Strings → List Assigned → ℕ → Walked → Type 0
IsWeighed y entries pieces (walked.Ask l) =
    (value_of entries l.atom ≡ None) × IsWish y l.atom × (is_atom y.atoms l.atom ≡ true)
IsWeighed y entries pieces (walked.Step clause) = IsFalseStep y entries clause
IsWeighed y entries pieces (walked.To l) = IsWrong y entries l × (pieces_at y l.atom < pieces)
IsWeighed y entries pieces walked.Noted = ⊥
IsWeighed y entries pieces walked.Spent = ⊥

pub record IsWalked (x y : Strings) (entries : List Assigned) (pieces : ℕ) (before after : Spending)
    (old new : Option (List ℕ)) (walked : Walked) : Type 0
  where
    pub sofar : IsSofar x y entries before after old new
    pub fewer : unnoted y entries ≤ unnoted x entries
    pub end : IsEnd x y entries pieces after walked

-- what a call that may put lines leaves, whatever comes of it
pub record Leaves {A : Type 0} (P : A → Type 0) (x y : Strings) (before after : Spending) (faults now : ℕ)
    (result : Result A TapeFault) : Type 0
  where
    pub ok : IfOk result P
    pub grows : Grows x y
    pub steps : SpendsWithin before after
    pub counts : CountsTapeFault result faults now

-- the same of a call that puts none
pub record Stays {A E : Type 0} (P : A → Type 0) (x y : Strings) (result : Result A E) : Type 0 where
  pub ok : IfOk result P
  pub keeps : Keeps x y
