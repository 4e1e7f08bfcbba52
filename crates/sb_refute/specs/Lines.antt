-- What the calls that put lines of atoms, gates and assertions come to, where assertions are kept, and the
-- empty clause of the lowest level.
use Rattle.std.specs.Prelude.{◌≡◌, ◌≢◌, ℕ, zero, suc, Bool, true, false, nat_lt, if◌then◌else◌, List, [], ◌∷◌, length, map, take, slice_get, Option, Some, None, option_map, IfSome, Result, Ok, Err}
use Rattle.std.specs.declared.alloc.Global.{Global}
use Rattle.std.specs.declared.vec.Vec.{Vec}
use Rattle.sb_lit.specs.Kept.{Kept, KeptClause}
use Rattle.sb_lang.specs.Regex.{Regex}
use Rattle.sb_lit.specs.Clauses.{are_ascending, negation}
use Rattle.sb_lit.specs.declared.clause.Lit.{Lit}
use Rattle.sb_clauses.specs.Propagation.{HasNoneFalse, are_reserved}
use Rattle.sb_meaning.specs.Terms.{Term}
use Rattle.sb_deriv.specs.Faithful.{Memo}
use Rattle.sb_rulebook.specs.Atoms.{Atom, AtomOver, is_well_formed}
use Rattle.sb_rulebook.specs.AtomRules.{has_its_parts}
use Rattle.sb_rulebook.specs.Brought.{is_brought_atom}
use Rattle.sb_script.specs.Brought as script
use Rattle.sb_script.specs.Pieces.{Piece}
use Rattle.sb_rulebook.specs.Gates.{is_gate}
use Rattle.sb_rulebook.specs.Kept.{AllKept, Asked}
use Rattle.sb_rulebook.specs.Tables.{names_below}
use Rattle.sb_rulebook.specs.Translation.{translation}
use Rattle.sb_atoms.specs.Numbered.{Names, over, atoms_in, Extends, HasRegexBelow, HaveRegexesBelow, IsWith}
use Rattle.sb_split.specs.Defining.{AreDue}
use Rattle.sb_refute.specs.Backing.{Backing, Backs, EvidencesUncounted, HasGates, KeepsAsserted, asserted_at, empty_at}
use Rattle.sb_refute.specs.Settling.{IsCovered, KeptStay, are_letters, letters_of}
use Rattle.sb_refute.specs.declared.evidence.Asserted.{Asserted}
use Rattle.sb_refute.specs.declared.evidence.EmptyClause.{EmptyClause}

-- what a call makes of a value: that one where it answers, and nothing else where it fails
abbrev pub Becomes : {T E X : Type 0} → Result T E → X → X → X → Type 0
Becomes (Ok t) old new that = new ≡ that
Becomes (Err e) old new that = new ≡ old

-- Lines lead from one evidence to another: what a reader keeps that backs the one is followed by what backs the other.
abbrev pub Leads : Asked → List Regex → Memo → Backing → Backing → Option (List ℕ) → Option (List ℕ) → Type 0
Leads asked rs memo e f old new =
    (before : AllKept) → Backs rs memo e before → EvidencesUncounted asked before rs memo f old new

abbrev pub LeadsAlways : Backing → Backing → Option (List ℕ) → Option (List ℕ) → Type 0
LeadsAlways e f old new = (asked : Asked) (rs : List Regex) (memo : Memo) → Leads asked rs memo e f old new

-- The clause is one of gates of these atoms, and its literals ascend.
pub record IsOfGates (atoms : List (AtomOver ℕ)) (clause : List Lit) : Type 0 where
  pub known : are_reserved (length atoms) clause ≡ true
  pub ascends : are_ascending clause ≡ true
  pub gate : (rs : List Regex) → is_gate (atoms_in rs atoms) clause ≡ true

-- a clause at level 0
abbrev pub at_bottom : List Lit → Option KeptClause
at_bottom ls = Some (record { literals = ls; level = 0 })

-- The literal is that of the live assertion of the place, on this level, which may be stated.
pub record IsAssertion (asked : Asked) (atoms : List Atom) (place : ℕ) (l : Lit) (level : ℕ) : Type 0 where
  pub term : Term
  pub live : slice_get asked.live place ≡ Some (Some term, level)
  pub stated : script.is_brought (script.a_statement_of term) ≡ true
  pub literal : translation atoms term ≡ Some l

-- so lines lead on, where the literal is the assertion's, if it has one,
abbrev pub LeadsClaimed : ℕ → Option Lit → ℕ → Backing → Backing → Option (List ℕ) → Option (List ℕ) → Type 0
LeadsClaimed place literal level e f old new = (asked : Asked) (rs : List Regex) (memo : Memo)
    → IfSome literal (λ l. IsAssertion asked (atoms_in rs e.atoms) place l level) → Leads asked rs memo e f old new

-- and from the atoms before a number alone, where the others are due
abbrev pub LeadsFrom : List Regex → ℕ → ℕ → Option Lit → ℕ → Backing → Backing → Option (List ℕ) → Option (List ℕ)
    → Type 0
LeadsFrom rs known place literal level e f old new = (asked : Asked) (memo : Memo) → AreDue asked known e.atoms
    → IfSome literal (λ l. IsAssertion asked (atoms_in rs e.atoms) place l level)
    → Leads asked rs memo (record e { atoms = take known e.atoms }) f old new

-- What is answered is the clause of the assertion at the place, of this literal and level, if it has one. The clause
-- that stood there stays if it was of these, and so do those of other places.
pub record IsClaimed (Puts : Type 0) (place : ℕ) (literal : Option Lit) (level : ℕ) (e f : Backing)
    (found : Option Asserted) : Type 0
  where
    pub puts : Puts
    pub asserted : found ≡ asserted_at f.asserted place
    pub literal_is : option_map (λ a. a.literal) found ≡ literal
    pub level_is : IfSome found (λ a. a.level ≡ level)
    pub stays : IfSome (asserted_at e.asserted place) (λ a. (a.level ≡ level) × (Some a.literal ≡ literal))
        → KeepsAsserted e f
    pub others : (other : ℕ) → other ≢ place → asserted_at f.asserted other ≡ asserted_at e.asserted other
    pub gated : HasGates f.gates f.atoms f.kept

-- the places with an assertion more
abbrev pub placed : List (Option Asserted) → ℕ → Option Asserted → List (Option Asserted)
placed [] zero a = a ∷ []
placed [] (suc n) a = None ∷ placed [] n a
placed (x ∷ xs) zero a = a ∷ xs
placed (x ∷ xs) (suc n) a = x ∷ placed xs n a

-- the clause at a place, if it has this literal and this level
abbrev pub IsStanding : Option Asserted → Lit → ℕ → Option Asserted → Type 0
IsStanding at l level (Some a) = (at ≡ Some a) × (a.literal ≡ l) × (a.level ≡ level)
IsStanding at l level None = (a : Asserted) → at ≡ Some a → a.literal ≡ l → a.level ≡ level → ⊥

-- the clause of the number, if it has no literals
abbrev pub IsEmptyOf : ℕ → Option KeptClause → Option EmptyClause → Type 0
IsEmptyOf n kept None = (clause : KeptClause) → kept ≡ Some clause → clause.literals ≢ []
IsEmptyOf n kept (Some empty) = (empty.clause.0 ≡ n) × (kept ≡ Some (empty_at empty))

-- the one of the lower level
abbrev pub lower_of : Option EmptyClause → Option EmptyClause → Option EmptyClause
lower_of None other = other
lower_of (Some one) None = Some one
lower_of (Some one) (Some other) = if nat_lt other.level one.level then Some other else Some one

-- An atom that speaks of no literals.

-- its regex is one of so many, and it is well formed
pub record SpeaksAlone (n : ℕ) (a : AtomOver ℕ) : Type 0 where
  pub regex : HasRegexBelow n a
  pub earlier : (i : ℕ) (rs : List Regex) → names_below i (over rs a) ≡ true
  pub formed : is_well_formed a ≡ true
  pub brought : is_brought_atom a ≡ true

-- The atom has the number, behind the others where it is new, and stands in the proof, with the clauses of the gates of
-- all atoms.
pub record IsAlone (rs : List Regex) (a : AtomOver ℕ) (e f : Backing) (old new : Option (List ℕ)) (number : ℕ) : Type 0
  where
    pub puts : (asked : Asked) (memo : Memo)
        → ((before : List Atom) → has_its_parts asked.sorts before a ≡ true) → Leads asked rs memo e f old new
    pub names : Names f.atoms number a
    pub grows : IsWith e.atoms f.atoms a
    pub extends : Extends e.atoms f.atoms
    pub regexes : HaveRegexesBelow (length rs) f.atoms
    pub asserted : f.asserted ≡ e.asserted
    pub stay : KeptStay e.kept f.kept
    pub gates : HasGates (length f.atoms) f.atoms f.kept

-- Clauses of memberships without constants.

-- whether a kept clause has only literals of the clause; none has where no kept clause is false under their negations
abbrev pub IsCover : Kept → List Lit → Bool → Type 0
IsCover kept clause true = IsCovered kept clause
IsCover kept clause false = HasNoneFalse kept (map negation clause)

-- the letters of pieces none of which is a constant
abbrev pub IsLettersOf : List Piece → Option (Vec ℕ Global) → Type 0
IsLettersOf ps None = are_letters ps ≡ false
IsLettersOf ps (Some word) = (are_letters ps ≡ true) × (word.items ≡ letters_of ps)
