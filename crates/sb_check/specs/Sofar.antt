-- Private: how far a run has come.
use Rattle.std.specs.Prelude.{◌≡◌, ℕ, ◌+◌, ◌<◌, ◌≤◌, Bool, true, false, List, [], ◌∷◌, ◌++◌, length, Option, Some, Result, Ok, Err}
use Rattle.sb_world.specs.Outside.{Outside}
use Rattle.sb_world.specs.Moved.{moved_by, nothing}
use Rattle.sb_reader.specs.Entries.{Entry, Begins}
use Rattle.sb_reader.specs.Feeding.{ShortensTo}
use Rattle.sb_script.specs.State.{State, start}
use Rattle.sb_rulebook.specs.Lines.{Said}
use Rattle.sb_rulebook.specs.Reading.{texts_of}
use Rattle.sb_rulebook.specs.Judging.{at_rest, Progress, beginning, accepted, refused}
use Rattle.sb_rulebook.specs.JudgingTexts.{along}
use Rattle.sb_rulebook.specs.Accepted.{events, verdict_lines}
use Rattle.sb_stack.specs.Stacked.{state_of}
use Rattle.sb_input.specs.TakingEntries as entries
use Rattle.sb_input.specs.TakingLines as lines
use Rattle.sb_check.specs.Standing.{IsAt}
use Rattle.sb_check.specs.Reasons.{reason_in}
use Rattle.sb_check.specs.declared.checker.CheckerFault.{CheckerFault}
use Rattle.sb_check.specs.declared.checker.CheckerFault.TheVariants as fault
use Rattle.sb_check.specs.declared.check.Run.{Run}
use Rattle.sb_sound.specs.Certified.{AreWholeLines}
use Rattle.sb_sound.specs.Outcomes.{behind, AreEntriesOf}
use Rattle.sb_check.specs.Running.{Writes, CutShort, IsBounded, PastLimit}

-- These are the bytes of the script and of the proof, of which at most so many are read. Entries in front of the script
-- were gone through, and lead to the state, if the script does not end with them; the proof goes along with them, and
-- their verdicts are written. Of the entries behind them these are taken.
pub record Sofar (at : Option State) (taken : List Entry) (limit : ℕ) (script proof : List ℕ) (run : Run)
    (old now : Outside) : Type 0
  where
    pub entries_limit : run.entries.limit ≡ limit
    pub lines_limit : run.lines.limit ≡ limit
    pub list : List Entry
    pub all : List Entry
    pub all_is : all ≡ list ++ taken
    pub state : behind start list ≡ at
    -- the bytes of the script that were read, and of these the ones that are not taken
    pub bytes : List ℕ
    pub rest : List ℕ
    pub begins : Begins run.entries.kept.1 bytes all rest
    pub shorter : ShortensTo rest run.entries.kept.0
    pub script_left : List ℕ
    pub script_is : entries.IsLeft run.entries now script_left
    pub script_split : script ≡ bytes ++ script_left
    pub script_read : length bytes ≡ run.entries.read
    pub script_within : run.entries.read ≤ limit
    pub script_below : run.entries.kept.1 ≡ true → run.entries.read < limit
    -- the bytes of the lines that are taken
    pub front : List ℕ
    pub whole : AreWholeLines front
    pub proof_left : List ℕ
    pub proof_is : lines.IsLeft run.lines now proof_left
    pub proof_split : proof ≡ front ++ (run.lines.kept ++ proof_left)
    pub proof_read : run.lines.read + length proof_left ≡ length proof
    pub proof_within : run.lines.read ≤ limit
    pub progress : Progress
    pub rests : IsAt at_rest run.checker.judge progress
    pub goes : (more : List ℕ)
        → along beginning (events start list) (texts_of (front ++ more)) ≡ (progress, texts_of more)
    pub next : run.next_check ≡ length progress.said + 1
    pub moved : now
        ≡ moved_by (record nothing {
          script = run.entries.read;
          proof = run.lines.read;
          answers =
              verdict_lines 1 progress.said;
        }) old

-- a further entry may come
abbrev pub GoesOn : ℕ → List ℕ → List ℕ → Run → Outside → Outside → Type 0
GoesOn limit script proof run old now =
    Sofar (Some (state_of run.checker.judge.stack)) [] limit script proof run old now

-- This entry comes next: it stands behind those that were gone through, and its bytes are taken.
abbrev pub FindsEntry : Entry → ℕ → List ℕ → List ℕ → Run → Outside → Outside → Type 0
FindsEntry entry limit script proof run old now =
    Sofar (Some (state_of run.checker.judge.stack)) (entry ∷ []) limit script proof run old now

-- the script has ended, with its bytes or with (exit)
abbrev pub HasEnded : ℕ → List ℕ → List ℕ → Run → Outside → Outside → Type 0
HasEnded limit script proof run old now =
    (at : Option State) × (sofar : Sofar at [] limit script proof run old now) × AreEntriesOf script sofar.all
    × IsBounded limit script

abbrev pub Turns : Bool → ℕ → List ℕ → List ℕ → Run → Outside → Outside → Type 0
Turns true limit script proof run old now = GoesOn limit script proof run old now
Turns false limit script proof run old now = HasEnded limit script proof run old now

-- All lines were taken, and the proof is accepted; its verdicts are written.
abbrev pub HasAccepted : ℕ → List ℕ → List ℕ → Outside → Outside → Type 0
HasAccepted limit script proof old now =
    (said : List Said) × Writes limit script proof (accepted said) (verdict_lines 1 said) old now
    × IsBounded limit script × (length proof < limit)

-- Why the run stopped. The verdicts so far are written.
abbrev pub Stops : CheckerFault → ℕ → List ℕ → List ℕ → Outside → Outside → Type 0
Stops (fault.Refused n reason) limit script proof old now = (said : List Said)
    × Writes limit script proof (refused said n (reason_in reason)) (verdict_lines 1 said) old now
Stops fault.Limit limit script proof old now = PastLimit limit script proof old now
Stops fault.Fault limit script proof old now = CutShort limit script proof old now
Stops fault.NoMemory limit script proof old now = CutShort limit script proof old now
Stops fault.PastNumbers limit script proof old now = CutShort limit script proof old now

abbrev pub Concludes : Result (Unit {0}) CheckerFault → ℕ → List ℕ → List ℕ → Outside → Outside → Type 0
Concludes (Ok _) limit script proof old now = HasAccepted limit script proof old now
Concludes (Err fault) limit script proof old now = Stops fault limit script proof old now

-- the fault is the outside's, or want of memory or of numbers
abbrev pub is_cut : CheckerFault → Type 0
is_cut fault.Fault = Unit {0}
is_cut fault.NoMemory = Unit {0}
is_cut fault.PastNumbers = Unit {0}
is_cut fault.Limit = ⊥
is_cut (fault.Refused n reason) = ⊥
