-- What a check finds, and when a verdict may be given.
use Rattle.std.specs.Prelude.{◌≡◌, ℕ, Bool, true, false, not, ◌&&◌, ◌==◌, if◌then◌else◌, List, [], ◌∷◌, filter, codes, Option, Some, None}
use Rattle.std.specs.List.{list_any}
use Rattle.sb_meaning.specs.Values.{Valuation}
use Rattle.sb_reader.specs.Entries.{Entry}
use Rattle.sb_script.specs.State.{State, plain, satisfied, refuted, undecided, Assumption, Satisfiable}
use Rattle.sb_script.specs.Fragment.{in_fragment}
use Rattle.sb_script.specs.Models.{IsGiven}
use Rattle.sb_script.specs.Steps.{Step, answers, leaves, checks, exits, line, unsupported_line}
use Rattle.sb_script.specs.Replies.{step_of}

pub data Verdict : Type 0 where
  is_sat : Valuation → Verdict
  -- with assumptions that contradict what is asserted
  is_unsat : List Assumption → Verdict
  -- as many steps were taken as the limit allows
  is_unknown : Verdict
  is_outside : Verdict

abbrev pub verdict_text : Verdict → List ℕ
verdict_text (is_sat v) = line (codes "sat")
verdict_text (is_unsat assumptions) = line (codes "unsat")
verdict_text is_unknown = line (codes "unknown")
verdict_text is_outside = unsupported_line

-- the state after a verdict
abbrev pub settled : Verdict → State → State
settled (is_sat v) s = record s { mode = satisfied v }
settled (is_unsat assumptions) s = record s { mode = refuted assumptions }
settled is_unknown s = record s { mode = undecided }
settled is_outside s = record s { mode = plain }

abbrev pub is_same_assumption : Assumption → Assumption → Bool
is_same_assumption a b = (a.0 == b.0) && (if a.1 then b.1 else not b.1)

-- each assumption once, at its first place
abbrev pub each_once : List Assumption → List Assumption
each_once [] = []
each_once (a ∷ others) = a ∷ filter (λ b. not (is_same_assumption a b)) (each_once others)

-- Some of the assumptions, each once, in the order given.
abbrev pub are_some_of : List Assumption → List Assumption → Bool
are_some_of [] given = true
are_some_of (a ∷ others) [] = false
are_some_of (a ∷ others) (b ∷ bs) =
    if is_same_assumption a b then not (list_any (is_same_assumption a) others) && are_some_of others bs
    else are_some_of (a ∷ others) bs

-- Assumptions that alone contradict what is asserted.
pub record IsCore (s : State) (given named : List Assumption) : Type 0 where
  pub some : are_some_of named given ≡ true
  pub contradicted : Satisfiable s named → ⊥

-- When a verdict may be given: values that make all live assertions and assumptions true; unsat only where there are
-- none; and no decision exactly where the fragment is left. How many steps were taken is not said here.
abbrev pub IsVerdict : State → List Assumption → Verdict → Type 0
IsVerdict s given (is_sat v) = (in_fragment s ≡ true) × IsGiven s given v
IsVerdict s given (is_unsat named) = (in_fragment s ≡ true) × (Satisfiable s given → ⊥) × IsCore s given named
IsVerdict s given is_unknown = in_fragment s ≡ true
IsVerdict s given is_outside = in_fragment s ≡ false

-- What a check may find, in a state and under assumptions: a verdict, with the bytes of the lines that prove it.
abbrev pub Finding : Type 1
Finding = State → List Assumption → List ℕ → Verdict → Type 0

-- no proof is written, and each check in the fragment is decided
abbrev pub FindsUnproved : Finding
FindsUnproved s given lines is_unknown = ⊥
FindsUnproved s given lines verdict = (lines ≡ []) × IsVerdict s given verdict

-- the reply that a step may have, with what a check found, and the state after it
abbrev pub IsReply : Finding → Step → State → List ℕ → Option Verdict → List ℕ → State → Type 0
IsReply Finds (answers bytes new) s lines found reply after =
    (lines ≡ []) × (found ≡ None) × (reply ≡ bytes) × (after ≡ new)
IsReply Finds (leaves what bytes new) s lines found reply after =
    (lines ≡ []) × (found ≡ None) × (reply ≡ bytes) × (after ≡ new)
IsReply Finds (checks given) s lines found reply after =
    (v : Verdict) × Finds s given lines v × (found ≡ Some v) × (reply ≡ verdict_text v) × (after ≡ settled v s)
IsReply Finds (exits bytes) s lines found reply after =
    (lines ≡ []) × (found ≡ None) × (reply ≡ bytes) × (after ≡ s)

-- The reply to an entry, with its line feed, and the state after it; at a check the lines of its proof and the
-- verdict.
abbrev pub Replies : Finding → State → Entry → List ℕ → Option Verdict → List ℕ → State → Type 0
Replies Finds s entry lines found reply after = IsReply Finds (step_of entry s) s lines found reply after
