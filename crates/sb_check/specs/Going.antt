-- What an entry of a script, or its end, does to a proof that is read along with it.
use Rattle.std.specs.Prelude.{◌≡◌, ℕ, ◌+◌, ◌-◌, ◌^◌, ◌<◌, ◌≤◌, true, List, [], ◌∷◌, ◌++◌, length, drop, Option, Some, None, Result, Ok, Err}
use Rattle.sb_world.specs.Outside.{Outside, Rose}
use Rattle.sb_world.specs.Moved.{moved_by, reading}
use Rattle.sb_world.specs.declared.InPort.TheVariants as in_port
use Rattle.sb_world.specs.declared.WorldError.{WorldError}
use Rattle.sb_world.specs.declared.WorldError.TheVariants as world_error
use Rattle.sb_input.specs.declared.lines.LinesFault.{LinesFault}
use Rattle.sb_input.specs.declared.lines.LinesFault.TheVariants as lines_fault
use Rattle.sb_check.specs.declared.reason.JudgeFault.{JudgeFault}
use Rattle.sb_check.specs.declared.reason.JudgeFault.TheVariants as judge_fault
use Rattle.sb_check.specs.declared.reason.TakeFault.{TakeFault}
use Rattle.sb_check.specs.declared.reason.TakeFault.TheVariants as take_fault
use Rattle.sb_script.specs.State.{State}
use Rattle.sb_rulebook.specs.Refusals.{Refusal}
use Rattle.sb_rulebook.specs.Lines as lines
use Rattle.sb_rulebook.specs.LineLaws.{is_one_line}
use Rattle.sb_rulebook.specs.Reading.{LineText, texts_of}
use Rattle.sb_rulebook.specs.Judging.{Event, Phase, at_rest, Progress, is_at_check, accepted, refused, outcome_of, closed}
use Rattle.sb_rulebook.specs.JudgingTexts.{along, along_all}
use Rattle.sb_proof.specs.Lines.{said_in}
use Rattle.sb_sound.specs.Certified.{AreWholeLines}
use Rattle.sb_input.specs.TakingLines.{LinesState, ReadsOn, IsLeft}
use Rattle.sb_check.specs.declared.judge.Judge.{Judge}
use Rattle.sb_check.specs.Standing.{IsAt}
use Rattle.sb_check.specs.Reasons.{reason_in}
use Rattle.sb_check.specs.Running.{is_at_end}
use Rattle.sb_check.specs.declared.checker.Checked.{Checked}
use Rattle.sb_check.specs.declared.checker.Checked.TheVariants as checked
use Rattle.sb_check.specs.declared.checker.CheckerFault.{CheckerFault}
use Rattle.sb_check.specs.declared.checker.CheckerFault.TheVariants as fault

-- the verdict of the entry, if it is a check
abbrev pub said_by : Checked → List lines.Said
said_by checked.Goes = []
said_by (checked.Said said) = said_in said ∷ []
said_by checked.Ends = []

-- The next entry may come in the new state, or the script ends with this one.
abbrev pub LeadsTo : Checked → Option State → State → Type 0
LeadsTo checked.Goes behind new = behind ≡ Some new
LeadsTo (checked.Said said) behind new = behind ≡ Some new
LeadsTo checked.Ends behind new = behind ≡ None

-- So many bytes of the proof were read, maybe none, and nothing else moved.
pub record Reads (count : ℕ) (old new : LinesState) (before after : Outside) : Type 0 where
  pub moved : after ≡ moved_by (reading in_port.Proof count) before
  pub read : new.read ≡ old.read + count
  pub limit : new.limit ≡ old.limit
  pub within : old.read ≤ old.limit → new.read ≤ new.limit
  -- behind the proof's end nothing is read
  pub ended : old.ended ≡ true → (count ≡ 0) × (new.ended ≡ true)

-- Where the outside tells that these bytes of the proof are left: so many of them were read, these events were met with
-- these whole lines, and the verdicts are those of their checks. Whatever stands behind these lines is left.
pub record Came (count : ℕ) (said : List lines.Said) (es : List Event) (old new : LinesState) (after : Outside)
    (left : List ℕ) (before : Progress) (judge : Judge) : Type 0
  where
    pub within : count ≤ length left
    pub left_is : IsLeft new after (drop count left)
    pub front : List ℕ
    pub whole : AreWholeLines front
    pub split : old.kept ++ left ≡ front ++ (new.kept ++ drop count left)
    pub progress : Progress
    pub rests : IsAt at_rest judge progress
    pub said_is : progress.said ≡ before.said ++ said
    pub goes : (more : List ℕ) → along before es (texts_of (front ++ more)) ≡ (progress, texts_of more)

-- These events were met, each with the lines that were due, and as many bytes of the proof as that wants were read.
pub record Goes (said : List lines.Said) (es : List Event) (old new : Judge) (lines lines' : LinesState)
    (before after : Outside) : Type 0
  where
    pub count : ℕ
    pub reads : Reads count lines lines' before after
    pub came : (p : Progress) (left : List ℕ) → IsAt at_rest old p → IsLeft lines before left
        → Came count said es lines lines' after left p new

-- So many bytes of the proof were read, no more than the limit, and nothing else moved.
pub record ReadsProof (lines : LinesState) (before after : Outside) : Type 0 where
  pub count : ℕ
  pub moved : after ≡ moved_by (reading in_port.Proof count) before
  pub within : lines.read ≤ lines.limit → lines.read + count ≤ lines.limit

-- how a proof may be refused
abbrev pub Refusing : Type 1
Refusing = ℕ → Refusal → Progress → List LineText → Type 0

-- the line is refused whatever comes of the script behind these events
abbrev pub IsRefusedAlong : List Event → Refusing
IsRefusedAlong es n refusal p texts =
    (fs : List Event) → outcome_of (closed (along_all p (es ++ fs) texts)) ≡ refused p.said n refusal

-- it is refused where the script ends
abbrev pub IsRefusedAtEnd : Refusing
IsRefusedAtEnd n refusal p texts = outcome_of (closed (along_all p [] texts)) ≡ refused p.said n refusal

-- how far lines of a proof lead
abbrev pub Taking : Type 1
Taking = Progress → List LineText → Progress → Type 0

-- all of them are taken along with the events, and a check waits for more
abbrev pub WaitsAlong : List Event → Taking
WaitsAlong es p texts q = (along p es texts ≡ (q, [])) × (is_at_check q.phase ≡ true)

-- all of them are taken where the script ends, and the proof's end is due
abbrev pub WaitsAtEnd : Taking
WaitsAtEnd p texts q = (along_all p [] texts ≡ q) × (is_at_end q.phase ≡ true)

-- Where these bytes of the proof are left: so many of them were read, and these whole lines, which give no verdict,
-- lead on. No other line is whole in what was read.
pub record CameToLimit (Takes : Taking) (count : ℕ) (old new : LinesState) (left : List ℕ) (before : Progress) : Type 0
  where
    pub within : count ≤ length left
    pub front : List ℕ
    pub whole : AreWholeLines front
    pub split : old.kept ++ left ≡ front ++ (new.kept ++ drop count left)
    pub progress : Progress
    pub said_is : progress.said ≡ before.said
    pub takes : Takes before (texts_of front) progress

-- As many bytes as the limit were read, and not the proof's end.
pub record IsPast (Takes : Taking) (phase : Phase) (old : Judge) (lines lines' : LinesState) (before after : Outside)
    : Type 0
  where
    pub count : ℕ
    pub reads : ReadsOn count lines lines' before after
    pub at_limit : lines'.read ≡ lines'.limit
    pub part : is_one_line lines'.kept ≡ true
    pub came : (p : Progress) (left : List ℕ) → IsAt phase old p → IsLeft lines before left
        → CameToLimit Takes count lines lines' left p

-- why no verdict comes
abbrev pub Fails : CheckerFault → Refusing → Taking → Judge → LinesState → LinesState → Outside → Outside → Type 0
Fails (fault.Refused n reason) refuses Takes old lines lines' before after =
    ReadsProof lines before after × ((p : Progress) (left : List ℕ) → IsAt at_rest old p → IsLeft lines before left
    → refuses n (reason_in reason) p (texts_of (lines.kept ++ left)))
Fails fault.Limit refuses Takes old lines lines' before after = IsPast Takes at_rest old lines lines' before after
Fails fault.Fault refuses Takes old lines lines' before after = ReadsProof lines before after
Fails fault.NoMemory refuses Takes old lines lines' before after = ReadsProof lines before after
Fails fault.PastNumbers refuses Takes old lines lines' before after = ReadsProof lines before after

-- where numbers run out, they reach so far
abbrev pub HasRunOut : CheckerFault → ℕ → Type 0
HasRunOut fault.PastNumbers n = 2 ^ 64 - 1 ≤ n
HasRunOut _ n = Unit {0}

-- The last lines were taken: the proof is accepted. All of it was read, and its end stands below the limit.
pub record Finishes (old : Judge) (lines lines' : LinesState) (before after : Outside) : Type 0 where
  pub count : ℕ
  pub reads : ReadsOn count lines lines' before after
  pub below : lines'.read < lines'.limit
  pub all : (left : List ℕ) → IsLeft lines before left → length left ≡ count
  pub accepts : (p : Progress) (left : List ℕ) → IsAt at_rest old p → IsLeft lines before left
      → outcome_of (closed (along_all p [] (texts_of (lines.kept ++ left)))) ≡ accepted p.said

-- only a failure of the outside raises the count of faults, and such a failure does
abbrev pub CountsCheckerFault : {T : Type 0} → Result T CheckerFault → ℕ → ℕ → Type 0
CountsCheckerFault (Ok x) old new = new ≡ old
CountsCheckerFault (Err (fault.Refused n reason)) old new = new ≡ old
CountsCheckerFault (Err fault.Limit) old new = new ≡ old
CountsCheckerFault (Err fault.Fault) old new = Rose old new
CountsCheckerFault (Err fault.NoMemory) old new = new ≡ old
CountsCheckerFault (Err fault.PastNumbers) old new = new ≡ old

-- the fault by that of what was called

abbrev pub fault_of_world : WorldError → CheckerFault
fault_of_world world_error.Failed = fault.Fault
fault_of_world world_error.NoMemory = fault.NoMemory

abbrev pub fault_of_lines : LinesFault → CheckerFault
fault_of_lines lines_fault.Fault = fault.Fault
fault_of_lines lines_fault.NoMemory = fault.NoMemory

abbrev pub fault_of_judge : JudgeFault → CheckerFault
fault_of_judge (judge_fault.Refused n reason) = fault.Refused n reason
fault_of_judge judge_fault.NoMemory = fault.NoMemory

abbrev pub fault_of_take : TakeFault → CheckerFault
fault_of_take (take_fault.Judged f) = fault_of_judge f
fault_of_take take_fault.PastNumbers = fault.PastNumbers
