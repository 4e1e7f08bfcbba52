-- What a run of the checker does outside, by its status.
use Rattle.std.specs.Prelude.{◌≡◌, ℕ, ◌+◌, ◌<◌, ◌≤◌, Bool, true, false, List, [], ◌++◌, ◌⊎◌, length, take, None, Some, option_map, Result, Ok, Err}
use Rattle.sb_world.specs.Outside.{Outside, open_at, Rose}
use Rattle.sb_world.specs.Moved.{moved_by, nothing, writing}
use Rattle.sb_world.specs.declared.WorldError.{WorldError}
use Rattle.sb_world.specs.declared.WorldError.TheVariants as world_error
use Rattle.sb_world.specs.declared.InPort.TheVariants as in_port
use Rattle.sb_world.specs.declared.OutPort.TheVariants as out_port
use Rattle.sb_words.specs.CheckerWords.{script_of, proof_of}
use Rattle.sb_reader.specs.Entries.{Entry, Begins, HoldsNoEntry}
use Rattle.sb_script.specs.State as state
use Rattle.sb_rulebook.specs.LineLaws.{is_one_line}
use Rattle.sb_rulebook.specs.Reading.{LineText, texts_of}
use Rattle.sb_rulebook.specs.Refusals.{Refusal}
use Rattle.sb_rulebook.specs.Lines.{Said}
use Rattle.sb_rulebook.specs.Judging.{Phase, at_rest, at_check, at_end, behind_end, stopped, Progress, beginning, is_at_check, Outcome, accepted, refused, goes_on}
use Rattle.sb_rulebook.specs.JudgingTexts.{along, along_all, judged}
use Rattle.sb_rulebook.specs.Accepted.{answer, events}
use Rattle.sb_sound.specs.Certified.{AreWholeLines}
use Rattle.sb_sound.specs.TruthLaws.{AreTrue}
use Rattle.sb_sound.specs.Outcomes.{behind, IsOutcome, AreEntriesOf}
use Rattle.sb_check.specs.declared.check.CheckStatus.{CheckStatus}
use Rattle.sb_check.specs.declared.check.CheckStatus.TheVariants.{Accepted, Refused, Usage, Fault, NoMemory, InputLimit}

-- What is asked of a run.
pub record Asked : Type 0 where
  -- the files that hold the script and the proof, by name
  pub script : List ℕ
  pub proof : List ℕ
  -- of neither more bytes than so many are read
  pub limit : ℕ

-- what is asked by the names of a script and of a proof
abbrev pub asked_for : List ℕ → List ℕ → ℕ → Asked
asked_for script proof limit = record { script = script; proof = proof; limit = limit }

-- the outside once both are opened, the script first
abbrev pub opened : Asked → Outside → Outside
opened asked o = open_at in_port.Proof (Some asked.proof) (open_at in_port.Script (Some asked.script) o)

-- The outcome is that of the proof along with the script. So many bytes were read of each, of neither more than the
-- limit, this text was written to standard output, and nothing else moved.
pub record Writes (limit : ℕ) (script proof : List ℕ) (outcome : Outcome) (text : List ℕ) (old new : Outside)
    : Type 0 where
  pub is : IsOutcome script proof outcome
  pub script_read : ℕ
  pub proof_read : ℕ
  pub script_within : script_read ≤ limit
  pub proof_within : proof_read ≤ limit
  pub moved : new ≡ moved_by (record nothing { script = script_read; proof = proof_read; answers = text }) old

-- less than all of an outcome's text was written, or all of it
abbrev pub CutShort : ℕ → List ℕ → List ℕ → Outside → Outside → Type 0
CutShort limit script proof old new =
    (outcome : Outcome) × (out : ℕ) × Writes limit script proof outcome (take out (answer outcome)) old new

-- An entry that ends the run, (exit), stands within so many bytes of the script as the limit.
pub record HasExit (limit : ℕ) (script : List ℕ) : Type 0 where
  pub front : List ℕ
  pub more : List ℕ
  pub split : script ≡ front ++ more
  pub within : length front ≤ limit
  pub entries : List Entry
  pub left : List ℕ
  pub begins : Begins false front entries left
  pub last : behind state.start entries ≡ None

-- The script's end stands below the limit, or (exit) within it.
abbrev pub IsBounded : ℕ → List ℕ → Type 0
IsBounded limit script = (length script < limit) ⊎ HasExit limit script

-- So many bytes in front of the script as the limit are these whole entries, none of them (exit), and a rest without a
-- whole one. The proof goes along with all of these entries, with these verdicts, and no line of it is refused.
pub record IsPastScript (limit : ℕ) (script proof : List ℕ) (said : List Said) : Type 0 where
  pub front : List ℕ
  pub more : List ℕ
  pub split : script ≡ front ++ more
  pub at_limit : length front ≡ limit
  pub entries : List Entry
  pub left : List ℕ
  pub begins : Begins false front entries left
  pub none : HoldsNoEntry false left
  pub after : state.State
  pub no_exit : behind state.start entries ≡ Some after
  pub progress : Progress
  pub lines : List LineText
  pub goes : along beginning (events state.start entries) (texts_of proof) ≡ (progress, lines)
  pub rests : progress.phase ≡ at_rest
  pub said_is : progress.said ≡ said

-- the end of the proof is due: its last line, or nothing behind it
abbrev pub is_at_end : Phase → Bool
is_at_end at_rest = false
is_at_end (at_check q) = false
is_at_end at_end = true
is_at_end behind_end = true
is_at_end (stopped n refusal) = false

-- All these lines of a proof are taken along with these entries of the script, and none is refused: behind the entries
-- a check waits for more lines, or they are all of the script, and the end of the proof is due.
abbrev pub AreTaken : List ℕ → List Entry → List LineText → Progress → Type 0
AreTaken script entries lines p =
    ((along beginning (events state.start entries) lines ≡ (p, [])) × (is_at_check p.phase ≡ true))
    ⊎ ((along_all beginning (events state.start entries) lines ≡ p) × (is_at_end p.phase ≡ true)
    × AreEntriesOf script entries)

-- So many bytes in front of the proof as the limit are these whole lines, and a rest in which no line ends. All of
-- these lines are taken along with these entries in front of the script, with these verdicts.
pub record IsPastProof (limit : ℕ) (script proof : List ℕ) (said : List Said) : Type 0 where
  pub front : List ℕ
  pub left : List ℕ
  pub more : List ℕ
  pub split : proof ≡ front ++ (left ++ more)
  pub at_limit : length front + length left ≡ limit
  pub whole : AreWholeLines front
  pub part : is_one_line left ≡ true
  pub entries : List Entry
  pub rest : List ℕ
  pub begins : Begins true script entries rest
  pub progress : Progress
  pub taken : AreTaken script entries (texts_of front) progress
  pub said_is : progress.said ≡ said

-- So many bytes as the limit were read, of the script before its end and (exit), or of the proof before its end. No
-- line is refused so far, and the verdicts so far are written.
pub record PastLimit (limit : ℕ) (script proof : List ℕ) (old new : Outside) : Type 0 where
  pub said : List Said
  pub writes : Writes limit script proof (goes_on said) (answer (goes_on said)) old new
  pub past : ((writes.script_read ≡ limit) × IsPastScript limit script proof said)
      ⊎ ((writes.proof_read ≡ limit) × IsPastProof limit script proof said)

-- What is written where these are the bytes of the script and of the proof. An accepted proof stands below the limit,
-- and its script up to the end or to (exit).
abbrev pub RunOf : CheckStatus → ℕ → List ℕ → List ℕ → Outside → Outside → Type 0
RunOf Accepted limit script proof old new =
    (said : List Said) × Writes limit script proof (accepted said) (answer (accepted said)) old new
    × IsBounded limit script × (length proof < limit)
RunOf Refused limit script proof old new = (said : List Said) × (n : ℕ) × (refusal : Refusal)
    × Writes limit script proof (refused said n refusal) (answer (refused said n refusal)) old new
RunOf InputLimit limit script proof old new = PastLimit limit script proof old new
RunOf Fault limit script proof old new = CutShort limit script proof old new
RunOf NoMemory limit script proof old new = CutShort limit script proof old new
RunOf Usage limit script proof old new = ⊥

-- The outside tells that the files hold these bytes.
pub record AreHeld (asked : Asked) (o : Outside) (script proof : List ℕ) : Type 0 where
  pub script_is : o.file asked.script ≡ Some script
  pub proof_is : o.file asked.proof ≡ Some proof

-- These bytes are left of both where they are opened.
pub record AreLeft (o : Outside) (script proof : List ℕ) : Type 0 where
  pub script_is : o.script_in.left ≡ Some script
  pub proof_is : o.proof_in.left ≡ Some proof

-- what a run does once both are opened
abbrev pub OpenedRun : Asked → CheckStatus → Outside → Outside → Type 0
OpenedRun asked status old new = (script proof : List ℕ) → AreHeld asked old script proof
    → RunOf status asked.limit script proof (opened asked old) new

-- what a run of which this is asked does: where it was cut short, maybe before both were opened
abbrev pub Run : Asked → CheckStatus → Outside → Outside → Type 0
Run asked Accepted old new = OpenedRun asked Accepted old new
Run asked Refused old new = OpenedRun asked Refused old new
Run asked InputLimit old new = OpenedRun asked InputLimit old new
Run asked Fault old new =
    (new ≡ old) ⊎ ((new ≡ open_at in_port.Script (Some asked.script) old) ⊎ OpenedRun asked Fault old new)
Run asked NoMemory old new =
    (new ≡ old) ⊎ ((new ≡ open_at in_port.Script (Some asked.script) old) ⊎ OpenedRun asked NoMemory old new)
Run asked Usage old new = ⊥

-- less than all of the text was written to standard error
abbrev pub CutInText : List ℕ → Outside → Outside → Type 0
CutInText text old new =
    (out : ℕ) × (out < length text) × (new ≡ moved_by (writing (out_port.Faults, take out text)) old)

-- What a run does whose words are not taken: it writes a text to standard error, and touches nothing else.
abbrev pub WrongWords : CheckStatus → Outside → Outside → Type 0
WrongWords Usage old new = (text : List ℕ) × (new ≡ moved_by (writing (out_port.Faults, text)) old)
WrongWords Fault old new = (text : List ℕ) × CutInText text old new
WrongWords NoMemory old new = (new ≡ old) ⊎ ((text : List ℕ) × CutInText text old new)
WrongWords Accepted old new = ⊥
WrongWords Refused old new = ⊥
WrongWords InputLimit old new = ⊥

-- The count of faults rose where the status says so, and only there.
abbrev pub CountsFaults : CheckStatus → ℕ → ℕ → Type 0
CountsFaults Fault old new = Rose old new
CountsFaults Accepted old new = new ≡ old
CountsFaults Refused old new = new ≡ old
CountsFaults InputLimit old new = new ≡ old
CountsFaults NoMemory old new = new ≡ old
CountsFaults Usage old new = new ≡ old

-- what the program's words ask, where they are taken, and of neither input more than so many bytes are to be read
abbrev pub IsAsked : List (List ℕ) → ℕ → Asked → Type 0
IsAsked words limit asked =
    (script_of words ≡ Some asked.script) × (proof_of words ≡ Some asked.proof) × (asked.limit ≡ limit)

-- The proof is accepted along with all entries of the script, and each verdict that is written is true of the state in
-- which its check stands.
pub record MeansSo (script proof : List ℕ) (old new : Outside) : Type 0 where
  pub said : List Said
  pub entries : List Entry
  pub all : AreEntriesOf script entries
  pub judged : judged (events state.start entries) proof ≡ accepted said
  pub true_of : AreTrue state.start beginning entries (texts_of proof) said
  pub written : new.answers.written ≡ option_map (λ bytes. bytes ++ answer (accepted said)) old.answers.written

-- the status of a run whose last text was written, or not
abbrev pub status_by : Result (Unit {0}) WorldError → CheckStatus → CheckStatus
status_by (Ok _) status = status
status_by (Err world_error.Failed) status = Fault
status_by (Err world_error.NoMemory) status = NoMemory

-- The status is one of a run that opened both.
abbrev pub IsOpened : CheckStatus → Type 0
IsOpened Usage = ⊥
IsOpened Accepted = Unit {0}
IsOpened Refused = Unit {0}
IsOpened InputLimit = Unit {0}
IsOpened Fault = Unit {0}
IsOpened NoMemory = Unit {0}
