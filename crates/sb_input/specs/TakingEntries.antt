-- What it is to take the entries of a script, one after another, from the bytes that a world gives.
use Rattle.std.specs.Prelude.{◌≡◌, ℕ, ◌+◌, ◌-◌, ◌<◌, ◌≤◌, Bool, true, false, List, ◌++◌, [], length, take, drop, Some, Result, Ok, Err}
use Rattle.sb_world.specs.Outside.{Outside, Rose}
use Rattle.sb_world.specs.Moved.{moved_by, reading}
use Rattle.sb_world.specs.declared.InPort.TheVariants as in_port
use Rattle.sb_world.specs.declared.WorldError.{WorldError}
use Rattle.sb_world.specs.declared.WorldError.TheVariants as world_error
use Rattle.sb_reader.specs.declared.feed.Ending.{Ending}
use Rattle.sb_reader.specs.declared.feed.Ending.TheVariants.{Clean, Unfinished}
use Rattle.sb_reader.specs.declared.feed.Next.{Next}
use Rattle.sb_reader.specs.declared.feed.Next.TheVariants as next
use Rattle.sb_reader.specs.Tokens.{is_open_gap}
use Rattle.sb_reader.specs.Forms.{form_of}
use Rattle.sb_reader.specs.Entries.{Entry, Command, Refused, SpellsEntry, HoldsNoEntry}
use Rattle.sb_reader.specs.Feeding.{Unanswered, ShortensTo}
use Rattle.sb_input.specs.declared.entries.EntriesFault.{EntriesFault}
use Rattle.sb_input.specs.declared.entries.EntriesFault.TheVariants.{Fault, NoMemory}

pub record EntriesState : Type 0 where
  -- the bytes that were read and are not taken, maybe without white space and comments in front, and whether the
  -- script's end was met
  pub kept : Unanswered
  -- how many bytes were read, and how many are to be read at most
  pub read : ℕ
  pub limit : ℕ

-- So many bytes of the script were read, and nothing else moved.
pub record ReadsOn (count : ℕ) (old new : EntriesState) (before after : Outside) : Type 0 where
  pub moved : after ≡ moved_by (reading in_port.Script count) before
  pub read : new.read ≡ old.read + count
  pub limit : new.limit ≡ old.limit
  pub within : new.read ≤ new.limit
  -- behind the script's end nothing is read
  pub ended : old.kept.1 ≡ true → (count ≡ 0) × (new.kept.1 ≡ true)

-- how many bytes may still be taken
abbrev pub most_to_come : EntriesState → ℕ
most_to_come s = length s.kept.0 + (s.limit - s.read)

-- What is so behind it, whatever the outside tells.
abbrev pub Leaves : Next → EntriesState → EntriesState → Type 0
Leaves (next.Command sexpr) old new = most_to_come new < most_to_come old
Leaves (next.Refused refusal) old new = most_to_come new < most_to_come old
Leaves next.NotYet old new = (new.kept.1 ≡ false) × (new.read ≡ new.limit)
Leaves (next.Ended ending) old new = new.kept.1 ≡ true

-- The outside tells that these bytes are left of the script: none once its end was met.
pub record IsLeft (s : EntriesState) (o : Outside) (left : List ℕ) : Type 0 where
  pub told : o.script_in.left ≡ Some left
  pub none : s.kept.1 ≡ true → left ≡ []

-- the bytes begin with the entry, which is whole where it stands, and these are behind it
abbrev pub TakesEntry : Bool → Entry → List ℕ → List ℕ → Type 0
TakesEntry ended entry rest behind = (front : List ℕ) × (rest ≡ front ++ behind) × SpellsEntry ended entry front behind

abbrev pub is_clean : Ending → Bool
is_clean Clean = true
is_clean Unfinished = false

-- What was found at the front of the bytes that were read and stand behind all entries that were taken, and the bytes
-- behind it.
abbrev pub Finds : Bool → Next → List ℕ → List ℕ → Type 0
Finds ended (next.Command sexpr) rest behind = TakesEntry ended (Command (form_of sexpr)) rest behind
Finds ended (next.Refused refusal) rest behind = TakesEntry ended (Refused refusal) rest behind
Finds ended next.NotYet rest behind = (behind ≡ rest) × HoldsNoEntry false rest
Finds ended (next.Ended ending) rest behind =
    (behind ≡ rest) × (HoldsNoEntry true rest × (is_open_gap rest ≡ is_clean ending))

-- how it is found
pub record Advances (found : Next) (old new : EntriesState) (before after : Outside) : Type 0 where
  pub count : ℕ
  pub reads : ReadsOn count old new before after
  pub leaves : Leaves found old new
  -- the end is met below the limit
  pub below : new.kept.1 ≡ true → new.read < new.limit
  -- where these bytes of the script are left, and those were read and stand behind all entries that were taken
  pub finds : (left rest : List ℕ) → IsLeft old before left → ShortensTo rest old.kept.0
      → IsLeft new after (drop count left) × ((count ≤ length left)
      × ((behind : List ℕ) × Finds new.kept.1 found (rest ++ take count left) behind × ShortensTo behind new.kept.0))

-- It isn't known what comes next: so many bytes were read.
pub record IsCutShort (old : EntriesState) (before after : Outside) : Type 0 where
  pub count : ℕ
  pub moved : after ≡ moved_by (reading in_port.Script count) before
  pub within : old.read + count ≤ old.limit

abbrev pub fault_of : WorldError → EntriesFault
fault_of world_error.Failed = Fault
fault_of world_error.NoMemory = NoMemory

-- only a failure of the outside raises the count of faults, and such a failure does
abbrev pub CountsEntriesFault : {T : Type 0} → Result T EntriesFault → ℕ → ℕ → Type 0
CountsEntriesFault (Ok x) old new = new ≡ old
CountsEntriesFault (Err Fault) old new = Rose old new
CountsEntriesFault (Err NoMemory) old new = new ≡ old
