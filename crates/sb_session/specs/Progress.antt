-- Private: how far a run has come.
use Rattle.std.specs.Prelude.{◌≡◌, ℕ, List, length, Result, Ok, Err}
use Rattle.sb_world.specs.Outside.{Outside}
use Rattle.sb_world.specs.Moved.{Write, moved_by}
use Rattle.sb_reader.specs.Entries.{Entry}
use Rattle.sb_reader.specs.Feeding as feed
use Rattle.sb_rulebook.specs.Judging as rulebook
use Rattle.sb_stack.specs.Stacked.{state_of}
use Rattle.sb_session.specs.declared.command.Stop.{Stop}
use Rattle.sb_session.specs.declared.command.Stop.TheVariants as stop
use Rattle.sb_session.specs.declared.solve.SolveStatus.{SolveStatus}
use Rattle.sb_session.specs.declared.solve.SolveStatus.TheVariants.{Fault, NoMemory}
use Rattle.sb_session.specs.Commanding.{SessionState, is_proved, IsTracked}
use Rattle.sb_session.specs.Reading.{work, Answered}

-- Of the bytes that were read the entries in front are answered, and what is kept of them is not.
pub record Sofar (opened : Outside) (bytes : List ℕ) (kept : feed.Unanswered) (session : SessionState) (now : Outside)
    : Type 0 where
  pub entries : List Entry
  pub writes : List Write
  -- the bytes behind the entries, of which not all white space and comments are kept
  pub left : List ℕ
  pub shorter : feed.ShortensTo left kept.0
  -- how far the proof has come
  pub progress : rulebook.Progress
  pub tracked : IsTracked session progress
  pub answered : Answered (is_proved session) bytes kept.1 entries left writes (state_of session.stack, progress)
  pub outside : now ≡ moved_by (work (length bytes) writes) opened

-- the status of a run that ended with a status or an error
abbrev pub status_by : Result SolveStatus Stop → SolveStatus
status_by (Ok status) = status
status_by (Err stop.Fault) = Fault
status_by (Err stop.NoMemory) = NoMemory
status_by (Err stop.Spent) = NoMemory
