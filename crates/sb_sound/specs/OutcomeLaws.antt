-- Laws of what comes of a proof: all entries of a script have the same events, so there is one outcome.
use Rattle.std.specs.Prelude.{◌≡◌, ℕ, Bool, true, List, [], ◌∷◌, ◌++◌}
use Rattle.sb_reader.specs.Entries.{Entry, Begins, HoldsNoEntry}
use Rattle.sb_script.specs.State as state
use Rattle.sb_script.specs.Replies.{is_exit}
use Rattle.sb_rulebook.specs.Judging.{Outcome, accepted, refused, goes_on}
use Rattle.sb_rulebook.specs.JudgingTexts.{judged}
use Rattle.sb_rulebook.specs.Accepted.{events}
use Rattle.sb_sound.specs.Outcomes.{AreEntriesOf, IsOutcome}

-- nothing more can come of the proof
abbrev pub IsEnd : Outcome → Type 0
IsEnd (accepted said) = Unit {0}
IsEnd (refused said n refusal) = Unit {0}
IsEnd (goes_on said) = ⊥

-- All entries of a script have the same events, in whatever way they are found.
abbrev pub SameEvents : Type 0
SameEvents = (script : List ℕ) (entries entries' : List Entry) → AreEntriesOf script entries
    → AreEntriesOf script entries' → events state.start entries ≡ events state.start entries'

-- An outcome that is an end is what is judged of the proof along with all entries of the script, in whatever way these
-- are found.
abbrev pub OneOutcome : Type 0
OneOutcome = (script proof : List ℕ) (entries : List Entry) (outcome : Outcome) → AreEntriesOf script entries
    → IsOutcome script proof outcome → IsEnd outcome → judged (events state.start entries) proof ≡ outcome

-- Entries that some bytes in front of the script begin with, the last of them (exit), are all entries of the script.
-- Where the bytes were read as ended they are all of the script.
abbrev pub SolvedEntries : Type 0
SolvedEntries = (script bytes rest left : List ℕ) (ended : Bool) (entries before : List Entry) (exit : Entry)
    → script ≡ bytes ++ rest → (ended ≡ true → rest ≡ []) → Begins ended bytes entries left
    → entries ≡ before ++ exit ∷ [] → is_exit exit ≡ true → AreEntriesOf script entries

-- So are those up to the end of the script.
abbrev pub WholeEntries : Type 0
WholeEntries = (script left : List ℕ) (entries : List Entry) → Begins true script entries left
    → HoldsNoEntry true left → AreEntriesOf script entries
