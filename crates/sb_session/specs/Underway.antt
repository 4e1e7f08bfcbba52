-- Private: what is known within a run.
use Rattle.std.specs.Prelude.{◌≡◌, ◌<◌, false, List, ℕ, length, Option, Some, None}
use Rattle.sb_world.specs.Outside.{Outside}
use Rattle.sb_reader.specs.Feeding as feed
use Rattle.sb_session.specs.Commanding.{SessionState, is_proved}
use Rattle.sb_session.specs.declared.solve.Pause.{Pause}
use Rattle.sb_session.specs.declared.solve.Pause.TheVariants.{Exited, Waiting, Ended}
use Rattle.sb_session.specs.Progress.{Sofar}
use Rattle.sb_session.specs.Reading.{IsFront, IsAll}
use Rattle.sb_session.specs.Pausing.{Pauses, NoneLeft}
use Rattle.sb_session.specs.Replying.{Asked, asks_proof}
use Rattle.sb_session.specs.Solve.{opened}

-- The session pauses, or an entry is answered and the next may come.
abbrev pub Turns : Option Pause → Outside → List ℕ → feed.Unanswered → SessionState → Outside → Type 0
Turns None o bytes kept session now = Sofar o bytes kept session now
Turns (Some pause) o bytes kept session now = Pauses pause o bytes kept session now

-- Only (exit) ends the session.
abbrev pub StaysOpen : Pause → SessionState → Type 0
StaysOpen Exited session = Unit {0}
StaysOpen Waiting session = session.ended ≡ false
StaysOpen (Ended ending) session = session.ended ≡ false

-- These bytes of the script are read, and all whole entries in them are answered.
pub record Underway (asked : Asked) (old : Outside) (bytes : List ℕ) (kept : feed.Unanswered) (session : SessionState)
    (now : Outside) : Type 0
  where
    pub kind : is_proved session ≡ asks_proof asked
    pub front : IsFront bytes (opened asked old)
    pub goes_on : kept.1 ≡ false
    pub left : NoneLeft (opened asked old) bytes kept session now

-- These are all bytes of the script, and fewer than the limit.
pub record IsRead (asked : Asked) (old : Outside) (bytes : List ℕ) : Type 0 where
  pub all : IsAll bytes (opened asked old)
  pub below_limit : length bytes < asked.limit

-- All of the script is read.
pub record AllRead (asked : Asked) (old : Outside) (bytes : List ℕ) (kept : feed.Unanswered) (session : SessionState)
    (now : Outside) : Type 0
  where
    pub kind : is_proved session ≡ asks_proof asked
    pub is_read : IsRead asked old bytes
    pub goes_on : kept.1 ≡ false
    pub sofar : Sofar (opened asked old) bytes kept session now
