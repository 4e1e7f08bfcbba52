-- One entry more: its events, and the state behind it. A front of entries, and one verdict more.
use Rattle.std.proofs.Common.{◌≡◌, ℕ, ◌+◌, Bool, List, [], ◌∷◌, ◌++◌, length, Option, Some, None, codes, decimal, refl, sym, ap, subst, ◌∙◌, append_assoc, arith}
use Rattle.std.proofs.lemmas.List.{append-nil}
use Rattle.sb_reader.specs.Entries.{Entry, Begins}
use Rattle.sb_script.specs.State.{State}
use Rattle.sb_script.specs.Steps.{line}
use Rattle.sb_script.specs.Replies.{step_of}
use Rattle.sb_rulebook.specs.Lines.{Said}
use Rattle.sb_rulebook.specs.Judging.{Event}
use Rattle.sb_rulebook.specs.Accepted.{events_of, state_behind, events, verdict_lines, said_text}
use Rattle.sb_sound.specs.Outcomes.{behind}

same_state : (s t : State) → Some s ≡ Some t → t ≡ s
same_state s t h = cc

same_option : (o : Option State) → elim o as (λ _. Option State) [ Some next ↦ Some next | None ↦ None ] ≡ o
same_option (Some next) = refl
same_option None = refl

no_events : (o : Option State) → elim o as (λ _. List Event) [ Some next ↦ [] | None ↦ [] ] ≡ []
no_events (Some next) = refl
no_events None = refl

-- the state behind one more entry
pub behind-more : (s t : State) (entries : List Entry) (entry : Entry) → behind s entries ≡ Some t
    → behind s (entries ++ entry ∷ []) ≡ state_behind (step_of entry t) t
behind-more s t [] entry h =
    subst (λ (x : State). behind s (entry ∷ []) ≡ state_behind (step_of entry x) x) (sym (same_state s t h))
    (same_option (state_behind (step_of entry s) s))
behind-more s t (first ∷ entries) entry h =
    step (state_behind (step_of first s) s) h (λ next. behind-more next t entries entry)
  where
    step : (o : Option State)
        → elim o as (λ _. Option State) [ Some next ↦ behind next entries | None ↦ None ] ≡ Some t
        → ((next : State) → behind next entries ≡ Some t
        → behind next (entries ++ entry ∷ []) ≡ state_behind (step_of entry t) t)
        → elim o as (λ _. Option State) [ Some next ↦ behind next (entries ++ entry ∷ []) | None ↦ None ]
        ≡ state_behind (step_of entry t) t
    step (Some next) h rest = rest next h
    step None h rest = absurd cc

-- behind entries of which one ends the run no state stands
pub behind-ended : (s : State) (entries others : List Entry) → behind s entries ≡ None
    → behind s (entries ++ others) ≡ None
behind-ended s [] others h = absurd cc
behind-ended s (first ∷ entries) others h =
    step (state_behind (step_of first s) s) h (λ next. behind-ended next entries others)
  where
    step : (o : Option State)
        → elim o as (λ _. Option State) [ Some next ↦ behind next entries | None ↦ None ] ≡ None
        → ((next : State) → behind next entries ≡ None → behind next (entries ++ others) ≡ None)
        → elim o as (λ _. Option State) [ Some next ↦ behind next (entries ++ others) | None ↦ None ] ≡ None
    step (Some next) h rest = rest next h
    step None h rest = refl

-- the events of one more entry
pub events-more : (s t : State) (entries : List Entry) (entry : Entry) → behind s entries ≡ Some t
    → events s (entries ++ entry ∷ []) ≡ events s entries ++ events_of (step_of entry t) t
events-more s t [] entry h =
    subst (λ (x : State). events s (entry ∷ []) ≡ events_of (step_of entry x) x) (sym (same_state s t h))
    (ap (λ (es : List Event). events_of (step_of entry s) s ++ es) (no_events (state_behind (step_of entry s) s))
    ∙ append-nil (events_of (step_of entry s) s))
events-more s t (first ∷ entries) entry h =
    ap (λ (es : List Event). events_of (step_of first s) s ++ es)
    (step (state_behind (step_of first s) s) h (λ next. events-more next t entries entry))
    ∙ sym (append_assoc (events_of (step_of first s) s) _ (events_of (step_of entry t) t))
  where
    step : (o : Option State)
        → elim o as (λ _. Option State) [ Some next ↦ behind next entries | None ↦ None ] ≡ Some t
        → ((next : State) → behind next entries ≡ Some t
        → events next (entries ++ entry ∷ []) ≡ events next entries ++ events_of (step_of entry t) t)
        → elim o as (λ _. List Event) [ Some next ↦ events next (entries ++ entry ∷ []) | None ↦ [] ]
        ≡ elim o as (λ _. List Event) [ Some next ↦ events next entries | None ↦ [] ]
        ++ events_of (step_of entry t) t
    step (Some next) h rest = rest next h
    step None h rest = absurd cc

-- entries in front of others
pub begins-front : (ended : Bool) (bytes : List ℕ) (front others : List Entry) (rest : List ℕ)
    → Begins ended bytes (front ++ others) rest → (middle : List ℕ) × Begins ended bytes front middle
begins-front ended bytes [] others rest h = (bytes, refl)
begins-front ended bytes (entry ∷ front) others rest h =
    let more = begins-front ended h.1 front others rest h.4 in (more.0, (h.0, h.1, h.2, h.3, more.1))

-- the lines of more verdicts
pub verdict_lines-more : (n : ℕ) (said more : List Said)
    → verdict_lines n (said ++ more) ≡ verdict_lines n said ++ verdict_lines (n + length said) more
verdict_lines-more n [] more = ap (λ (k : ℕ). verdict_lines k more) (omega arith)
verdict_lines-more n (first ∷ said) more =
    let counted : n + 1 + length said ≡ n + length (first ∷ said) = omega arith in
    ap (λ (bytes : List ℕ). line (codes "check " ++ (decimal n ++ (codes ": " ++ said_text first))) ++ bytes)
    (verdict_lines-more (n + 1) said more ∙ ap (λ (k : ℕ). verdict_lines (n + 1) said ++ verdict_lines k more) counted)
    ∙ sym (append_assoc (line (codes "check " ++ (decimal n ++ (codes ": " ++ said_text first))))
    (verdict_lines (n + 1) said) (verdict_lines (n + length (first ∷ said)) more))
