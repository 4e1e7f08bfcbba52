-- What it is to take the lines of a proof, one after another, from the bytes that a world gives.
use Rattle.std.specs.Prelude.{◌≡◌, ℕ, ◌+◌, ◌-◌, ◌<◌, ◌≤◌, Bool, true, false, List, [], ◌∷◌, ◌++◌, length, take, drop, Some, Result, Ok, Err}
use Rattle.sb_world.specs.Outside.{Outside, Rose}
use Rattle.sb_world.specs.Moved.{moved_by, reading}
use Rattle.sb_world.specs.declared.InPort.TheVariants as in_port
use Rattle.sb_world.specs.declared.WorldError.{WorldError}
use Rattle.sb_world.specs.declared.WorldError.TheVariants as world_error
use Rattle.sb_rulebook.specs.Reading.{texts_of}
use Rattle.sb_rulebook.specs.LineLaws.{is_one_line}
use Rattle.sb_input.specs.declared.lines.Found.{Found}
use Rattle.sb_input.specs.declared.lines.Found.TheVariants.{Line, End, Limit}
use Rattle.sb_input.specs.declared.lines.LinesFault.{LinesFault}
use Rattle.sb_input.specs.declared.lines.LinesFault.TheVariants.{Fault, NoMemory}

pub record LinesState : Type 0 where
  -- the line that was found last
  pub line : List ℕ
  -- the bytes that were read and are not taken
  pub kept : List ℕ
  -- the proof's end was met
  pub ended : Bool
  -- how many bytes were read, and how many are to be read at most
  pub read : ℕ
  pub limit : ℕ

-- Of the bytes in memory those from a start on are not taken, and the line stands in front of it.
abbrev pub state_of : List ℕ → ℕ → ℕ → ℕ → Bool → ℕ → ℕ → LinesState
state_of bytes start line_start line_end ended read limit = record {
  line = take (line_end - line_start) (drop line_start bytes);
  kept = drop start bytes;
  ended = ended;
  read = read;
  limit = limit;
}

-- So many bytes of the proof were read, and nothing else moved.
pub record ReadsOn (count : ℕ) (old new : LinesState) (before after : Outside) : Type 0 where
  pub moved : after ≡ moved_by (reading in_port.Proof count) before
  pub read : new.read ≡ old.read + count
  pub limit : new.limit ≡ old.limit
  pub within : new.read ≤ new.limit
  -- behind the proof's end nothing is read
  pub ended : old.ended ≡ true → (count ≡ 0) × (new.ended ≡ true)

-- how many bytes may still be taken
abbrev pub most_to_come : LinesState → ℕ
most_to_come s = length s.kept + (s.limit - s.read)

-- What is so behind it, whatever the outside tells.
abbrev pub Leaves : Found → LinesState → LinesState → Type 0
Leaves (Line ended) old new =
    (most_to_come new < most_to_come old)
    × ((is_one_line new.line ≡ true) × (ended ≡ false → (new.ended ≡ true) × (new.kept ≡ [])))
Leaves End old new = (new.ended ≡ true) × ((new.kept ≡ []) × (new.line ≡ []))
Leaves Limit old new =
    (new.ended ≡ false) × ((new.read ≡ new.limit) × ((is_one_line new.kept ≡ true) × (new.line ≡ [])))

-- The outside tells that these bytes are left of the proof: none once its end was met.
pub record IsLeft (s : LinesState) (o : Outside) (left : List ℕ) : Type 0 where
  pub told : o.proof_in.left ≡ Some left
  pub none : s.ended ≡ true → left ≡ []

-- What was found, where these bytes were left, and those are left behind it.
abbrev pub Finds : Found → LinesState → List ℕ → LinesState → List ℕ → Type 0
Finds (Line ended) old left new behind =
    (texts_of (old.kept ++ left) ≡ (new.line, ended) ∷ texts_of (new.kept ++ behind))
    × (ended ≡ true → old.kept ++ left ≡ new.line ++ 10 ∷ (new.kept ++ behind))
Finds End old left new behind = (old.kept ++ left ≡ []) × (behind ≡ [])
Finds Limit old left new behind = old.kept ++ left ≡ new.kept ++ behind

-- how it is found
pub record Advances (found : Found) (old new : LinesState) (before after : Outside) : Type 0 where
  pub count : ℕ
  pub reads : ReadsOn count old new before after
  pub leaves : Leaves found old new
  -- the end is met below the limit
  pub below : new.ended ≡ true → new.read < new.limit
  pub within : (left : List ℕ) → IsLeft old before left → count ≤ length left
  pub finds : (left : List ℕ) → IsLeft old before left
      → IsLeft new after (drop count left) × Finds found old left new (drop count left)

-- It isn't known what comes next, which happens only before the proof's end was met. No byte is lost.
pub record IsCutShort (old new : LinesState) (before after : Outside) : Type 0 where
  pub count : ℕ
  pub reads : ReadsOn count old new before after
  pub early : (old.ended ≡ false) × (new.ended ≡ false)
  pub kept : (left : List ℕ) → IsLeft old before left
      → IsLeft new after (drop count left) × (old.kept ++ left ≡ new.kept ++ drop count left)

abbrev pub fault_of : WorldError → LinesFault
fault_of world_error.Failed = Fault
fault_of world_error.NoMemory = NoMemory

-- only a failure of the outside raises the count of faults, and such a failure does
abbrev pub CountsLinesFault : {T : Type 0} → Result T LinesFault → ℕ → ℕ → Type 0
CountsLinesFault (Ok x) old new = new ≡ old
CountsLinesFault (Err Fault) old new = Rose old new
CountsLinesFault (Err NoMemory) old new = new ≡ old
