-- What a run of the solver does outside, by its status.
use Rattle.std.specs.Prelude.{◌≡◌, ℕ, ◌<◌, ◌≤◌, Bool, true, false, List, [], ◌∷◌, ◌++◌, ◌⊎◌, length, Option, None, Some}
use Rattle.sb_world.specs.Outside.{Outside, open_at, create_at, source_of, Rose}
use Rattle.sb_world.specs.Moved.{moved_by, writing, writing_all}
use Rattle.sb_world.specs.declared.InPort.TheVariants as in_port
use Rattle.sb_world.specs.declared.OutPort.TheVariants as out_port
use Rattle.sb_reader.specs.Tokens.{is_open_gap}
use Rattle.sb_reader.specs.Entries.{Entry, Begins}
use Rattle.sb_script.specs.Replies.{is_exit}
use Rattle.sb_script.specs.Scripts.{unfinished_line}
use Rattle.sb_session.specs.declared.solve.SolveStatus.{SolveStatus}
use Rattle.sb_session.specs.declared.solve.SolveStatus.TheVariants.{Done, Unfinished, Usage, Fault, NoMemory, InputLimit}
use Rattle.sb_session.specs.Commanding.{CutOf}
use Rattle.sb_session.specs.Replying.{Asked, asks_proof}
use Rattle.sb_session.specs.Reading.{IsFront, IsAll, UpToExit, AllAnswered, Cut, end_writes}

abbrev pub created : Option (List ℕ) → Outside → Outside
created None o = o
created (Some name) o = create_at out_port.Proof (Some name) o

-- the outside once the script is opened, and what takes the proof is created
abbrev pub opened : Asked → Outside → Outside
opened asked o = created asked.proof (open_at in_port.Script asked.script o)

-- All of the script was read, it ends outside a form, each entry is answered, and the proof is ended.
pub record AnsweredToTheEnd (asked : Asked) (old new : Outside) : Type 0 where
  pub script : List ℕ
  pub left : List ℕ
  pub all : IsAll script (opened asked old)
  pub below_limit : length script < asked.limit
  pub before : Outside
  pub clean : is_open_gap left ≡ true
  pub answered : AllAnswered (asks_proof asked) (opened asked old) script true left before
  pub ends : new ≡ moved_by (writing_all (end_writes (asks_proof asked) answered.s.1)) before

-- Some of the script was read, up to (exit) and maybe further, or all of it, each entry up to it is answered, and the
-- proof is ended.
pub record AnsweredToTheExit (asked : Asked) (old new : Outside) : Type 0 where
  pub bytes : List ℕ
  pub ended : Bool
  pub front : IsFront bytes (opened asked old)
  pub whole : ended ≡ true → IsAll bytes (opened asked old)
  pub within_limit : length bytes ≤ asked.limit
  pub before : Outside
  pub answered : UpToExit (asks_proof asked) (opened asked old) bytes ended before
  pub ends : new ≡ moved_by (writing_all (end_writes (asks_proof asked) answered.after.1)) before

-- All of the script was read, it ends within a form, each entry is answered, the end too, and the proof is ended.
pub record AnsweredUnfinished (asked : Asked) (old new : Outside) : Type 0 where
  pub script : List ℕ
  pub left : List ℕ
  pub before : Outside
  pub all : IsAll script (opened asked old)
  pub below_limit : length script < asked.limit
  pub unfinished : is_open_gap left ≡ false
  pub answered : AllAnswered (asks_proof asked) (opened asked old) script true left before
  pub outside : new
      ≡ moved_by (writing_all ((out_port.Answers, unfinished_line) ∷ end_writes (asks_proof asked) answered.s.1)) before

-- So many bytes as the limit were read of the script, each whole entry in them is answered, and none of them is (exit).
pub record PastLimit (asked : Asked) (old new : Outside) : Type 0 where
  pub bytes : List ℕ
  pub left : List ℕ
  pub front : IsFront bytes (opened asked old)
  pub at_limit : length bytes ≡ asked.limit
  pub answered : AllAnswered (asks_proof asked) (opened asked old) bytes false left new

-- Some of the script was read and answered when the run was cut short.
pub record CutInScript (asked : Asked) (old new : Outside) : Type 0 where
  pub bytes : List ℕ
  pub ended : Bool
  pub front : IsFront bytes (opened asked old)
  pub whole : ended ≡ true → IsAll bytes (opened asked old)
  pub cut : Cut (asks_proof asked) (opened asked old) bytes ended new

-- The run was cut short: before the script was opened, before what takes the proof was created, or later.
abbrev pub CutShort : Asked → Outside → Outside → Type 0
CutShort asked old new =
    (new ≡ old) ⊎ ((new ≡ open_at in_port.Script asked.script old) ⊎ CutInScript asked old new)

-- what a run of which this is asked does
abbrev pub Run : Asked → SolveStatus → Outside → Outside → Type 0
Run asked Done old new = AnsweredToTheEnd asked old new ⊎ AnsweredToTheExit asked old new
Run asked Unfinished old new = AnsweredUnfinished asked old new
Run asked InputLimit old new = PastLimit asked old new
Run asked Fault old new = CutShort asked old new
Run asked NoMemory old new = CutShort asked old new
Run asked Usage old new = ⊥

-- less than all of the text was written to standard error
abbrev pub CutInText : List ℕ → Outside → Outside → Type 0
CutInText text old new = CutOf ((out_port.Faults, text) ∷ []) old new

-- What a run does whose words are not taken: it writes a text to standard error, and touches nothing else.
abbrev pub WrongWords : SolveStatus → Outside → Outside → Type 0
WrongWords Usage old new = (text : List ℕ) × (new ≡ moved_by (writing (out_port.Faults, text)) old)
WrongWords Fault old new = (text : List ℕ) × CutInText text old new
WrongWords NoMemory old new = (new ≡ old) ⊎ ((text : List ℕ) × CutInText text old new)
WrongWords Done old new = ⊥
WrongWords InputLimit old new = ⊥
WrongWords Unfinished old new = ⊥

-- The count of faults rose where the status says so, and only there.
abbrev pub CountsFaults : SolveStatus → ℕ → ℕ → Type 0
CountsFaults Fault old new = Rose old new
CountsFaults Done old new = new ≡ old
CountsFaults InputLimit old new = new ≡ old
CountsFaults NoMemory old new = new ≡ old
CountsFaults Usage old new = new ≡ old
CountsFaults Unfinished old new = new ≡ old

-- The input that is asked for is told to hold the script, and its end or (exit) stands within fewer bytes than the
-- limit.
abbrev pub IsBounded : Asked → List ℕ → Outside → Type 0
IsBounded asked script o =
    (source_of asked.script o ≡ Some script)
    × ((length script < asked.limit)
    ⊎ ((front : List ℕ) × (behind : List ℕ) × (entries : List Entry) × (exit : Entry) × (left : List ℕ)
    × (script ≡ front ++ behind) × (length front < asked.limit) × Begins false front (entries ++ exit ∷ []) left
    × (is_exit exit ≡ true)))
