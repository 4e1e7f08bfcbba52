-- The lines of atoms, each put behind those of its regex.
use Rattle.std.specs.Prelude.{◌≡◌, ℕ, ◌≤◌, true, List, length, Option, Some, Result}
use Rattle.std.specs.Result.{IfOk}
use Rattle.sb_meaning.specs.Terms.{Sort}
use Rattle.sb_rulebook.specs.Atoms.{is_well_formed}
use Rattle.sb_rulebook.specs.AtomRules.{has_its_parts, with_regex}
use Rattle.sb_rulebook.specs.Brought.{is_brought}
use Rattle.sb_rulebook.specs.Kept.{AllKept, Asked}
use Rattle.sb_rulebook.specs.Lines.{atom_line}
use Rattle.sb_rulebook.specs.LineLaws.{atom_has_text}
use Rattle.sb_proof.specs.declared.tape.TapeFault.{TapeFault}
use Rattle.sb_deriv.specs.Faithful.{Memo}
use Rattle.sb_trace.specs.Putting.{CountsTapeFault, Puts}
use Rattle.sb_trace.specs.Tracking.{Traced, TracesUncounted, Tracks}
use Rattle.sb_split.specs.Words.{Atom, AtomOver, Names, Regex, atoms_in, over}

-- The atoms from this number on are well formed, and name no literal but of the atoms before them, and no constant but
-- declared ones.
abbrev pub AreDue : Asked → ℕ → List (AtomOver ℕ) → Type 0
AreDue asked known atoms = (i : ℕ) (a : AtomOver ℕ) → known ≤ i → Names atoms i a → (is_well_formed a ≡ true)
    × ((before : List Atom) → length before ≡ i → has_its_parts asked.sorts before a ≡ true)

-- Lines were put that follow; behind them the reader keeps the regexes of the trace, these atoms, and the clauses that
-- he kept before, and no line was counted.
pub record DefinesAtoms (asked : Asked) (before : AllKept) (rs : List Regex) (memo : Memo) (t : Traced)
    (all : List (AtomOver ℕ)) (old new : Option (List ℕ)) : Type 0
  where
    pub after : AllKept
    pub puts : Puts asked before after old new
    pub tracks : Tracks rs memo t after
    pub atoms : after.atoms ≡ atoms_in rs all
    pub clauses : after.clauses ≡ before.clauses
    pub counted : after.counted ≡ before.counted

-- A call on a tape: P of what it answers, Q whatever it answers, and a fault was counted.
pub record Called {A : Type 0} (result : Result A TapeFault) (P : A → Type 0) (Q : Type 0) (old new : ℕ) : Type 0 where
  pub ok : IfOk result P
  pub rest : Q
  pub counts : CountsTapeFault result old new

-- An atom as its line has it, behind the lines of its regex.
pub record IsLineOf (asked : Asked) (before : AllKept) (rs : List Regex) (memo : Memo) (t : Traced)
    (a line : AtomOver ℕ) (old new : Option (List ℕ)) : Type 0
  where
    pub traced : TracesUncounted asked before rs memo t old new
    pub defined : with_regex traced.0.regexes line ≡ Some (over rs a)
    pub brought : is_brought (atom_line line) ≡ true
    pub parts : (sorts : List Sort) (atoms : List Atom) → has_its_parts sorts atoms line ≡ has_its_parts sorts atoms a
    pub text : atom_has_text line ≡ true

-- the line is that of the atom, which names no regex
abbrev pub IsWritten : AtomOver ℕ → AtomOver ℕ → Type 0
IsWritten a line = (line ≡ a) × (atom_has_text line ≡ true)
