-- What it means that a proof was checked.
use Rattle.std.specs.Prelude.{◌≡◌, ℕ, List}
use Rattle.sb_reader.specs.Entries.{Entry}
use Rattle.sb_script.specs.State as state
use Rattle.sb_rulebook.specs.Lines.{Said}
use Rattle.sb_rulebook.specs.Reading.{texts_of}
use Rattle.sb_rulebook.specs.Judging.{beginning, accepted}
use Rattle.sb_rulebook.specs.JudgingTexts.{judged}
use Rattle.sb_rulebook.specs.Accepted.{events}
use Rattle.sb_sound.specs.TruthLaws.{AreTrue}
use Rattle.sb_sound.specs.Outcomes.{AreEntriesOf}

-- The proof is accepted along with all entries of the script, with these verdicts, and each of them is true of the state
-- in which its check stands.
pub record Confirms (script proof : List ℕ) (said : List Said) : Type 0 where
  pub entries : List Entry
  pub all : AreEntriesOf script entries
  pub judged : judged (events state.start entries) proof ≡ accepted said
  pub true_of : AreTrue state.start beginning entries (texts_of proof) said

-- some proof does
abbrev pub IsConfirmed : List ℕ → Type 0
IsConfirmed script = (proof : List ℕ) × (said : List Said) × Confirms script proof said
