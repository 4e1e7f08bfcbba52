-- Private: lines of the proof that are taken where a check waits, and where the end is due.
use Rattle.std.specs.Prelude.{◌≡◌, ℕ, ◌<◌, ◌≤◌, Bool, true, List, [], ◌∷◌, ◌++◌, length, drop, Option, Some, None}
use Rattle.sb_world.specs.Outside.{Outside}
use Rattle.sb_rulebook.specs.Lines as lines
use Rattle.sb_rulebook.specs.Reading.{LineText, texts_of}
use Rattle.sb_rulebook.specs.Judging.{Event, Phase, at_rest, at_end, Progress, is_at_check, refused, outcome_of, closed}
use Rattle.sb_rulebook.specs.JudgingTexts.{takes_all, through, along_all}
use Rattle.sb_proof.specs.Lines.{said_in}
use Rattle.sb_proof.specs.declared.line.Said.{Said}
use Rattle.sb_sound.specs.Certified.{AreWholeLines}
use Rattle.sb_input.specs.TakingLines.{LinesState, ReadsOn, IsLeft}
use Rattle.sb_check.specs.declared.judge.Judge.{Judge}
use Rattle.sb_check.specs.Standing.{IsAt, waiting_in, behind_line}
use Rattle.sb_check.specs.Reasons.{reason_in}
use Rattle.sb_check.specs.declared.checker.CheckerFault.{CheckerFault}
use Rattle.sb_check.specs.declared.checker.CheckerFault.TheVariants as fault
use Rattle.sb_check.specs.Running.{is_at_end}
use Rattle.sb_check.specs.Going.{Taking, Reads, ReadsProof, IsPast}

-- a check that waits takes its lines, and then the proof goes along with the events to the end
abbrev pub goes_through : Progress → List LineText → List Event → Progress
goes_through p texts es = let r = through p texts in along_all r.0 es r.1

-- the check waits on, or it has its verdict
abbrev pub phase_behind : Option Said → Judge → Phase
phase_behind None j = waiting_in j.stack
phase_behind (Some said) j = at_rest

abbrev pub verdicts_of : Option Said → List lines.Said
verdicts_of None = []
verdicts_of (Some said) = said_in said ∷ []

-- so many of the bytes that are left were read
abbrev pub Leaves : ℕ → LinesState → LinesState → Outside → Outside → Type 0
Leaves count old new before after = (left : List ℕ) → IsLeft old before left
    → (count ≤ length left) × IsLeft new after (drop count left)

-- Where these bytes of the proof are left: these whole lines were taken, and whatever stands behind them goes on from
-- there.
pub record CameThrough (count : ℕ) (said : Option Said) (old new : LinesState) (left : List ℕ) (before : Progress)
    (judge : Judge) : Type 0
  where
    pub front : List ℕ
    pub whole : AreWholeLines front
    pub split : old.kept ++ left ≡ front ++ (new.kept ++ drop count left)
    pub progress : Progress
    pub at : IsAt (phase_behind said judge) judge progress
    pub said_is : progress.said ≡ before.said ++ verdicts_of said
    pub goes : (more : List ℕ) → through before (texts_of (front ++ more)) ≡ through progress (texts_of more)

-- where a check waits lines were taken, up to its verdict where there is one
pub record GoesThrough (said : Option Said) (old new : Judge) (lines lines' : LinesState) (before after : Outside)
    : Type 0
  where
    pub count : ℕ
    pub reads : Reads count lines lines' before after
    pub leaves : Leaves count lines lines' before after
    pub came : (p : Progress) (left : List ℕ) → IsAt (waiting_in old.stack) old p → IsLeft lines before left
        → CameThrough count said lines lines' left p new

-- all lines are taken, and the check waits for more
abbrev pub WaitsThrough : Taking
WaitsThrough p texts q = (through p texts ≡ (q, [])) × (is_at_check q.phase ≡ true)

-- why they were not
abbrev pub StopsThrough : CheckerFault → Judge → LinesState → LinesState → Outside → Outside → Type 0
StopsThrough (fault.Refused n reason) old lines lines' before after = ReadsProof lines before after
    × ((p : Progress) (left : List ℕ) → IsAt (waiting_in old.stack) old p → IsLeft lines before left
    → (es : List Event) → outcome_of (closed (goes_through p (texts_of (lines.kept ++ left)) es))
    ≡ refused p.said n (reason_in reason))
StopsThrough fault.Limit old lines lines' before after =
    IsPast WaitsThrough (waiting_in old.stack) old lines lines' before after
StopsThrough fault.Fault old lines lines' before after = ReadsProof lines before after
StopsThrough fault.NoMemory old lines lines' before after = ReadsProof lines before after
StopsThrough fault.PastNumbers old lines lines' before after = ReadsProof lines before after

-- Where these bytes of the proof are left: these whole lines were taken, and whatever stands behind them is taken from
-- there.
pub record CameLast (count : ℕ) (last : Bool) (old new : LinesState) (left : List ℕ) (before : Progress)
    (judge : Judge) : Type 0
  where
    pub front : List ℕ
    pub whole : AreWholeLines front
    pub split : old.kept ++ left ≡ front ++ (new.kept ++ drop count left)
    pub progress : Progress
    pub at : IsAt (behind_line last) judge progress
    pub said_is : progress.said ≡ before.said
    pub goes : (more : List ℕ) → takes_all (texts_of (front ++ more)) before ≡ takes_all (texts_of more) progress

-- where the end is due lines were taken
pub record GoesLast (last : Bool) (old new : Judge) (lines lines' : LinesState) (before after : Outside) : Type 0 where
  pub count : ℕ
  pub reads : Reads count lines lines' before after
  pub leaves : Leaves count lines lines' before after
  pub came : (p : Progress) (left : List ℕ) → IsAt at_end old p → IsLeft lines before left
      → CameLast count last lines lines' left p new

-- all lines are taken, and the proof's end is due
abbrev pub WaitsLast : Taking
WaitsLast p texts q = (takes_all texts p ≡ q) × (is_at_end q.phase ≡ true)

-- why they were not, where the proof is in this phase
abbrev pub StopsLast : CheckerFault → Phase → Judge → LinesState → LinesState → Outside → Outside → Type 0
StopsLast (fault.Refused n reason) phase old lines lines' before after = ReadsProof lines before after
    × ((p : Progress) (left : List ℕ) → IsAt phase old p → IsLeft lines before left
    → outcome_of (closed (takes_all (texts_of (lines.kept ++ left)) p)) ≡ refused p.said n (reason_in reason))
StopsLast fault.Limit phase old lines lines' before after = IsPast WaitsLast phase old lines lines' before after
StopsLast fault.Fault phase old lines lines' before after = ReadsProof lines before after
StopsLast fault.NoMemory phase old lines lines' before after = ReadsProof lines before after
StopsLast fault.PastNumbers phase old lines lines' before after = ReadsProof lines before after

-- Nothing is left of the proof, whose end stands below the limit.
pub record IsBehindEnd (lines lines' : LinesState) (before after : Outside) : Type 0 where
  pub count : ℕ
  pub reads : ReadsOn count lines lines' before after
  pub below : lines'.read < lines'.limit
  pub within : (left : List ℕ) → IsLeft lines before left → count ≤ length left
  pub nothing : (left : List ℕ) → IsLeft lines before left → lines.kept ++ left ≡ []
