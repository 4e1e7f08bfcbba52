-- The events of a script, where the state has another mode, and entry by entry.
use Rattle.std.proofs.Common.{◌≡◌, Bool, true, false, List, [], ◌∷◌, ◌++◌, Some, None, refl, sym, ap, ◌∙◌}
use Rattle.sb_reader.specs.Entries.{Entry}
use Rattle.sb_script.specs.State.{State, Mode, plain}
use Rattle.sb_script.specs.Steps.{Step, answers, leaves, checks, exits}
use Rattle.sb_script.specs.Replies.{step_of, is_exit}
use Rattle.sb_rulebook.specs.Judging.{Event, asks}
use Rattle.sb_rulebook.specs.Accepted.{question_in, event_of_leaving, events_of, state_behind, events}
use Rattle.sb_script.proofs.CallerLemmas.{with_mode, entry_keeps}

-- What becomes of an entry depends on the mode in what is answered alone.

-- two steps of an entry that ends the run, or does not, with the same events and states that differ in mode alone
abbrev Alike : Bool → Step → Step → Type 0
Alike false (answers bytes new) (answers text other) = with_mode plain new ≡ with_mode plain other
Alike false (leaves what bytes new) (leaves which text other) =
    (what ≡ which) × (with_mode plain new ≡ with_mode plain other)
Alike false (checks given) (checks others) = given ≡ others
Alike true (exits bytes) (exits text) = Unit {0}
Alike _ _ _ = ⊥

entry_alike : (s : State) (m : Mode) (entry : Entry)
    → Alike (is_exit entry) (step_of entry (with_mode m s)) (step_of entry s)
entry_alike s m = entry_keeps m s Alike (record {
  stays = λ bytes text. refl;
  sets = λ bytes logic begun options. refl;
  declares = λ bytes name sort brought. refl;
  marks = λ bytes name. refl;
  makes = λ bytes name ps sorts form body brought is. refl;
  asserts = λ bytes form t is truth. refl;
  omits = λ bytes. refl;
  pushes = λ bytes n. refl;
  pops = λ bytes n. (refl, refl);
  clears = λ bytes. (refl, refl);
  resets = λ bytes. (refl, refl);
  asks = λ forms. refl;
  ends = λ bytes. tt;
})

-- the events from a step on
abbrev pub events_from : Step → State → List Entry → List Event
events_from x s entries =
    events_of x s ++ elim (state_behind x s) [ Some next ↦ events next entries | None ↦ [] ]

module _ (entries : List Entry) (same : (s : State) (m : Mode) → events (with_mode m s) entries ≡ events s entries)
  where
    same_rest : (s t : State) → with_mode plain s ≡ with_mode plain t → events s entries ≡ events t entries
    same_rest s t h = sym (same s plain) ∙ ap (λ u. events u entries) h ∙ same t plain

    same_from : (s : State) (m : Mode) (b : Bool) (x y : Step) → Alike b x y
        → events_from x (with_mode m s) entries ≡ events_from y s entries
    same_from s m false (answers bytes new) (answers text other) h = same_rest new other h
    same_from s m false (leaves what bytes new) (leaves which text other) h =
        ap (λ left. event_of_leaving left ∷ events new entries) h.0
        ∙ ap (λ es. event_of_leaving which ∷ es) (same_rest new other h.1)
    same_from s m false (checks given) (checks others) h =
        ap (λ assumptions. asks (question_in s assumptions) ∷ events (with_mode m s) entries) h
        ∙ ap (λ es. asks (question_in s others) ∷ es) (same s m)
    same_from s m true (exits bytes) (exits text) h = refl
    same_from s m _ _ _ h = absurd h

-- no event depends on the mode
pub same_events : (entries : List Entry) (s : State) (m : Mode) → events (with_mode m s) entries ≡ events s entries
same_events [] s m = refl
same_events (entry ∷ entries) s m =
    same_from entries (same_events entries) s m (is_exit entry) (step_of entry (with_mode m s)) (step_of entry s)
    (entry_alike s m entry)

-- The entry that ends the run, by its step.

abbrev pub is_exits : Step → Bool
is_exits (answers bytes s) = false
is_exits (leaves what bytes s) = false
is_exits (checks given) = false
is_exits (exits bytes) = true

alike_exits : (b : Bool) (x y : Step) → Alike b x y → is_exits y ≡ b
alike_exits false (answers bytes new) (answers text other) h = refl
alike_exits false (leaves what bytes new) (leaves which text other) h = refl
alike_exits false (checks given) (checks others) h = refl
alike_exits true (exits bytes) (exits text) h = refl
alike_exits _ _ _ h = absurd h

pub entry_exits : (entry : Entry) (s : State) → is_exits (step_of entry s) ≡ is_exit entry
entry_exits entry s = alike_exits (is_exit entry) (step_of entry s) (step_of entry s) (entry_alike s s.mode entry)
