-- When what the evidence knows is true of what is asked.
use Rattle.std.specs.Prelude.{◌≡◌, List}
use Rattle.sb_solve.specs.Words.{AllKept, Asked, Backing, Backs, Memo, Regex}
use Rattle.sb_sound.specs.SoundLaws.{IsSound}

-- A reader that keeps what the evidence knows keeps nothing but what is true of what is asked, whether lines led there
-- or not. No line is counted.
pub record IsTrue (asked : Asked) (rs : List Regex) (memo : Memo) (e : Backing) : Type 0 where
  pub kept : AllKept
  pub backs : Backs rs memo e kept
  pub sound : IsSound asked kept
  pub counted : kept.counted ≡ 0
