-- What is established of a proof along with a script.
use Rattle.std.specs.Prelude.{◌≡◌, ℕ, true, List, [], ◌∷◌, ◌++◌, ◌⊎◌, Option, Some, None}
use Rattle.sb_reader.specs.Entries.{Entry, Begins, HoldsNoEntry}
use Rattle.sb_script.specs.State.{State}
use Rattle.sb_script.specs.State as state
use Rattle.sb_script.specs.Replies.{step_of}
use Rattle.sb_rulebook.specs.Refusals.{Refusal}
use Rattle.sb_rulebook.specs.Lines.{Said}
use Rattle.sb_rulebook.specs.Reading.{LineText, texts_of}
use Rattle.sb_rulebook.specs.Judging.{Event, at_rest, Progress, beginning, Outcome, accepted, refused, goes_on, outcome_of, closed}
use Rattle.sb_rulebook.specs.JudgingTexts.{along_all, judged}
use Rattle.sb_rulebook.specs.Accepted.{state_behind, events}

-- the state behind entries, none where one of them ends the run
abbrev pub behind : State → List Entry → Option State
behind s [] = Some s
behind s (entry ∷ entries) = elim (state_behind (step_of entry s) s) [ Some next ↦ behind next entries | None ↦ None ]

-- These are all entries of the script, up to its end, or to one that ends the run: (exit).
pub record AreEntriesOf (script : List ℕ) (entries : List Entry) : Type 0 where
  pub rest : List ℕ
  pub begins : Begins true script entries rest
  pub last : HoldsNoEntry true rest ⊎ (behind state.start entries ≡ None)

-- The proof goes along with these entries in front of the script, and with these verdicts no line is refused so far.
pub record GoesAlong (script proof : List ℕ) (said : List Said) : Type 0 where
  pub entries : List Entry
  pub rest : List ℕ
  pub begins : Begins true script entries rest
  pub progress : Progress
  pub rests : progress.phase ≡ at_rest
  pub said_is : progress.said ≡ said
  pub left : List LineText
  pub goes : (es : List Event)
      → along_all beginning (events state.start entries ++ es) (texts_of proof) ≡ along_all progress es left

-- The proof is accepted along with all entries of the script.
pub record IsAccepted (script proof : List ℕ) (said : List Said) : Type 0 where
  pub entries : List Entry
  pub all : AreEntriesOf script entries
  pub judged : judged (events state.start entries) proof ≡ accepted said

-- Its line of this number is refused along with all entries of the script.
pub record IsRefusedAtLast (script proof : List ℕ) (said : List Said) (n : ℕ) (refusal : Refusal) : Type 0 where
  pub entries : List Entry
  pub all : AreEntriesOf script entries
  pub judged : judged (events state.start entries) proof ≡ refused said n refusal

-- It is refused along with these entries in front of the script, whatever stands behind them.
pub record IsRefusedBefore (script proof : List ℕ) (said : List Said) (n : ℕ) (refusal : Refusal) : Type 0 where
  pub entries : List Entry
  pub rest : List ℕ
  pub begins : Begins true script entries rest
  pub refused : (es : List Event)
      → outcome_of (closed (along_all beginning (events state.start entries ++ es) (texts_of proof)))
      ≡ refused said n refusal

-- the outcome is that of the proof along with the script
abbrev pub IsOutcome : List ℕ → List ℕ → Outcome → Type 0
IsOutcome script proof (accepted said) = IsAccepted script proof said
IsOutcome script proof (refused said n refusal) =
    IsRefusedAtLast script proof said n refusal ⊎ IsRefusedBefore script proof said n refusal
IsOutcome script proof (goes_on said) = GoesAlong script proof said
