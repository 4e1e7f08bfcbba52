-- One outcome.
use Rattle.std.proofs.Common.{◌≡◌, ℕ, true, List, [], ◌++◌, sym, inl, inr, ap, ◌∙◌}
use Rattle.std.proofs.lemmas.List.{append-nil}
use Rattle.sb_reader.specs.Entries.{Entry, Begins}
use Rattle.sb_reader.specs.Laws.{OneEntry, NoEntry}
use Rattle.sb_script.specs.State as state
use Rattle.sb_rulebook.specs.Reading.{texts_of}
use Rattle.sb_rulebook.specs.Judging.{Event, beginning, Outcome, accepted, refused, goes_on, outcome_of, closed}
use Rattle.sb_rulebook.specs.JudgingTexts.{along_all, judged}
use Rattle.sb_rulebook.specs.Accepted.{events}
use Rattle.sb_sound.specs.Outcomes.{AreEntriesOf}
use Rattle.sb_sound.specs.OutcomeLaws.{SameEvents, OneOutcome}
use Rattle.sb_sound.proofs.Fronts.{events_more, events_of_all, IsFrontOf, one_in_front}

module _ (one_entry : OneEntry) (no_entry : NoEntry) where
  -- entries behind all entries have no events
  as_many : (script : List ℕ) (first second : List Entry) (left : List ℕ) (all : AreEntriesOf script first)
      → IsFrontOf first second all.rest left → events state.start second ≡ events state.start first
  as_many script first second left all h =
      ap (events state.start) h.all
      ∙ events_of_all no_entry first h.others state.start all.rest left all.last h.begins

  pub same_events : SameEvents
  same_events script entries entries' all all' =
      elim (one_in_front one_entry entries entries' script all.rest all'.rest all.begins all'.begins)
      as (λ _. events state.start entries ≡ events state.start entries') [
        | inl h ↦ sym (as_many script entries entries' all'.rest all h)
        | inr h ↦ as_many script entries' entries all.rest all' h
      ]

  -- all entries have the events of any in front, and maybe more
  has_more : (script : List ℕ) (all front : List Entry) (rest : List ℕ) → AreEntriesOf script all
      → Begins true script front rest
      → (es : List Event) × (events state.start all ≡ events state.start front ++ es)
  has_more script all front rest are begins =
      elim (one_in_front one_entry front all script rest are.rest begins are.begins)
      as (λ _. (es : List Event) × (events state.start all ≡ events state.start front ++ es)) [
        | inl h ↦ let more = events_more front h.others state.start in
            (more.0, ap (events state.start) h.all ∙ more.1)
        | inr h ↦ ([], sym (as_many script all front rest are h) ∙ sym (append-nil (events state.start front)))
      ]

  judged_same : (script proof : List ℕ) (entries entries' : List Entry) (outcome : Outcome)
      → AreEntriesOf script entries → AreEntriesOf script entries'
      → judged (events state.start entries') proof ≡ outcome → judged (events state.start entries) proof ≡ outcome
  judged_same script proof entries entries' outcome all all' h =
      ap (λ (es : List Event). judged es proof) (same_events script entries entries' all all') ∙ h

  pub one_outcome : OneOutcome
  one_outcome script proof entries (accepted said) all h ends =
      judged_same script proof entries h.entries (accepted said) all h.all h.judged
  one_outcome script proof entries (refused said n refusal) all (inl h) ends =
      judged_same script proof entries h.entries (refused said n refusal) all h.all h.judged
  one_outcome script proof entries (refused said n refusal) all (inr h) ends =
      let more = has_more script entries h.entries h.rest all h.begins in
      ap (λ (es : List Event). outcome_of (closed (along_all beginning es (texts_of proof)))) more.1 ∙ h.refused more.0
  one_outcome script proof entries (goes_on said) all h ends = absurd ends
