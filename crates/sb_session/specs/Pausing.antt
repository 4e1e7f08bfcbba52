-- Private: what is done where no further entry is answered.
use Rattle.std.specs.Prelude.{◌≡◌, ℕ, Bool, true, false, List}
use Rattle.sb_world.specs.Outside.{Outside}
use Rattle.sb_reader.specs.declared.feed.Ending.{Ending}
use Rattle.sb_reader.specs.declared.feed.Ending.TheVariants.{Clean, Unfinished}
use Rattle.sb_reader.specs.Tokens.{is_open_gap}
use Rattle.sb_reader.specs.Entries.{HoldsNoEntry}
use Rattle.sb_reader.specs.Feeding as feed
use Rattle.sb_session.specs.Commanding.{SessionState, is_proved, IsTracked}
use Rattle.sb_session.specs.declared.solve.Pause.{Pause}
use Rattle.sb_session.specs.declared.solve.Pause.TheVariants.{Exited, Waiting, Ended}
use Rattle.sb_session.specs.Progress.{Sofar}
use Rattle.sb_session.specs.Reading.{UpToExit}

-- no whole entry is left
pub record NoneLeft (opened : Outside) (bytes : List ℕ) (kept : feed.Unanswered) (session : SessionState)
    (now : Outside) : Type 0
  where
    pub sofar : Sofar opened bytes kept session now
    pub none : HoldsNoEntry kept.1 kept.0
    pub goes_on : session.ended ≡ false

abbrev pub is_clean : Ending → Bool
is_clean Clean = true
is_clean Unfinished = false

abbrev pub Pauses : Pause → Outside → List ℕ → feed.Unanswered → SessionState → Outside → Type 0
Pauses Exited opened bytes kept session now =
    (up : UpToExit (is_proved session) opened bytes kept.1 now) × IsTracked session up.after.1
Pauses Waiting opened bytes kept session now = (kept.1 ≡ false) × NoneLeft opened bytes kept session now
Pauses (Ended ending) opened bytes kept session now = (kept.1 ≡ true) × (is_open_gap kept.0 ≡ is_clean ending)
    × NoneLeft opened bytes kept session now
