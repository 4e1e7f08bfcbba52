-- Entries in front of others, and their events.
use Rattle.std.proofs.Common.{◌≡◌, ℕ, ◌⊎◌, true, List, [], ◌∷◌, ◌++◌, Option, None, Some, refl, sym, subst, inl, inr, ap, ◌∙◌, append_assoc}
use Rattle.std.proofs.lemmas.List.{append-nil}
use Rattle.sb_reader.specs.Entries.{Entry, Begins, HoldsNoEntry}
use Rattle.sb_reader.specs.Laws.{OneEntry, NoEntry}
use Rattle.sb_script.specs.State.{State}
use Rattle.sb_script.specs.Replies.{step_of}
use Rattle.sb_rulebook.specs.Judging.{Event}
use Rattle.sb_rulebook.specs.Accepted.{state_behind, events_of, events}
use Rattle.sb_sound.specs.Outcomes.{behind}

-- the events behind a step
abbrev next_events : Option State → List Entry → List Event
next_events o entries = elim o as (λ _. List Event) [ Some next ↦ events next entries | None ↦ [] ]

abbrev next_behind : Option State → List Entry → Option State
next_behind o entries = elim o as (λ _. Option State) [ Some next ↦ behind next entries | None ↦ None ]

-- the events of entries stand in front of those of more entries
abbrev HasMore : List Event → List Event → Type 0
HasMore all front = (es : List Event) × (all ≡ front ++ es)

more_next : (o : Option State) (front : List Event) (entries more : List Entry)
    → ((next : State) → HasMore (events next (entries ++ more)) (events next entries))
    → HasMore (front ++ next_events o (entries ++ more)) (front ++ next_events o entries)
more_next None front entries more others = ([], sym (append-nil (front ++ [])))
more_next (Some next) front entries more others =
    let rest = others next in
    (rest.0, ap (λ es. front ++ es) rest.1 ∙ sym (append_assoc front (events next entries) rest.0))

pub events_more : (entries more : List Entry) (s : State) → HasMore (events s (entries ++ more)) (events s entries)
events_more [] more s = (events s more, refl)
events_more (entry ∷ entries) more s =
    more_next (state_behind (step_of entry s) s) (events_of (step_of entry s) s) entries more
    (λ next. events_more entries more next)

-- behind an entry that ends the run there are no events
ended_next : (o : Option State) (front : List Event) (entries more : List Entry) → next_behind o entries ≡ None
    → ((next : State) → behind next entries ≡ None → events next (entries ++ more) ≡ events next entries)
    → front ++ next_events o (entries ++ more) ≡ front ++ next_events o entries
ended_next None front entries more ended others = refl
ended_next (Some next) front entries more ended others = ap (λ es. front ++ es) (others next ended)

goes_on : (s : State) → Some s ≡ None → ⊥
goes_on s h = cc

events_ended : (entries more : List Entry) (s : State) → behind s entries ≡ None
    → events s (entries ++ more) ≡ events s entries
events_ended [] more s ended = absurd (goes_on s ended)
events_ended (entry ∷ entries) more s ended =
    ended_next (state_behind (step_of entry s) s) (events_of (step_of entry s) s) entries more ended
    (λ next. events_ended entries more next)

-- no entry stands in front of bytes without a whole one
none_left : NoEntry → (others : List Entry) (rest left : List ℕ) → HoldsNoEntry true rest
    → Begins true rest others left → others ≡ []
none_left no_entry [] rest left none begins = refl
none_left no_entry (entry ∷ others) rest left none begins =
    absurd (no_entry true entry rest begins.0 begins.1 none begins.2 begins.3)

-- others behind all entries add no events
pub events_of_all : NoEntry → (entries others : List Entry) (s : State) (rest left : List ℕ)
    → HoldsNoEntry true rest ⊎ (behind s entries ≡ None) → Begins true rest others left
    → events s (entries ++ others) ≡ events s entries
events_of_all no_entry entries others s rest left (inl none) begins =
    ap (λ list. events s (entries ++ list)) (none_left no_entry others rest left none begins)
    ∙ ap (events s) (append-nil entries)
events_of_all no_entry entries others s rest left (inr ended) begins = events_ended entries others s ended

-- The first entries stand in front of the second, which go on with others from what the first left.
pub record IsFrontOf (first second : List Entry) (rest left : List ℕ) : Type 0 where
  pub others : List Entry
  pub all : second ≡ first ++ others
  pub begins : Begins true rest others left

longer : (entry : Entry) (first second : List Entry) (rest left : List ℕ) → IsFrontOf first second rest left
    → IsFrontOf (entry ∷ first) (entry ∷ second) rest left
longer entry first second rest left h =
    record { others = h.others; all = ap (λ list. entry ∷ list) h.all; begins = h.begins }

-- of two lists of entries in front of the same bytes one stands in front of the other
pub one_in_front : OneEntry → (first second : List Entry) (bytes rest left : List ℕ) → Begins true bytes first rest
    → Begins true bytes second left → IsFrontOf first second rest left ⊎ IsFrontOf second first left rest
one_in_front one_entry [] second bytes rest left begins begins' =
    inl (record {
      others = second;
      all = refl;
      begins = subst (λ (bs : List ℕ). Begins true bs second left) begins begins';
    })
one_in_front one_entry (entry ∷ first) [] bytes rest left begins begins' =
    inr (record {
      others = entry ∷ first;
      all = refl;
      begins = subst (λ (bs : List ℕ). Begins true bs (entry ∷ first) rest) begins' begins;
    })
one_in_front one_entry (entry ∷ first) (entry' ∷ second) bytes rest left begins begins' =
    let same = one_entry true entry entry' begins.0 begins'.0 begins.1 begins'.1 begins.3 begins'.3
    (sym begins.2 ∙ begins'.2) in
    let others = one_in_front one_entry first second begins.1 rest left begins.4
    (subst (λ (bs : List ℕ). Begins true bs second left) (sym same.2) begins'.4) in
    subst
    (λ (e : Entry). IsFrontOf (entry ∷ first) (e ∷ second) rest left ⊎ IsFrontOf (e ∷ second) (entry ∷ first) left rest)
    same.0
    (elim others as (λ _. IsFrontOf (entry ∷ first) (entry ∷ second) rest left
    ⊎ IsFrontOf (entry ∷ second) (entry ∷ first) left rest) [
      | inl h ↦ inl (longer entry first second rest left h)
      | inr h ↦ inr (longer entry second first left rest h)
    ])
