-- All entries of a script: up to its end, or to one that ends the run.
use Rattle.std.proofs.Common.{◌≡◌, ℕ, Bool, true, false, List, [], ◌∷◌, ◌++◌, Option, None, Some, refl, sym, subst, inl, inr, ap, ◌∙◌}
use Rattle.std.proofs.lemmas.Bool.{false≢true}
use Rattle.std.proofs.lemmas.List.{append-nil}
use Rattle.sb_reader.specs.Entries.{Entry, Begins}
use Rattle.sb_reader.specs.Laws.{BeginningStays}
use Rattle.sb_script.specs.State.{State}
use Rattle.sb_script.specs.State as state
use Rattle.sb_script.specs.Steps.{Step, exits}
use Rattle.sb_script.specs.Replies.{step_of, is_exit}
use Rattle.sb_rulebook.specs.Accepted.{state_behind}
use Rattle.sb_sound.specs.Outcomes.{behind}
use Rattle.sb_sound.proofs.EventFacts.{is_exits, entry_exits}
use Rattle.sb_sound.specs.OutcomeLaws.{SolvedEntries, WholeEntries}

no_state : (exit : Entry) (s : State) → is_exit exit ≡ true → state_behind (step_of exit s) s ≡ None
no_state exit s h = of_step (step_of exit s) (entry_exits exit s ∙ h)
  where
    of_step : (x : Step) → is_exits x ≡ true → state_behind x s ≡ None
    of_step (exits bytes) h = refl
    of_step _ h = absurd (false≢true h)

abbrev next_behind : Option State → List Entry → Option State
next_behind o entries = elim o as (λ _. Option State) [ Some next ↦ behind next entries | None ↦ None ]

ends_next : (o : Option State) (entries : List Entry) → ((next : State) → behind next entries ≡ None)
    → next_behind o entries ≡ None
ends_next None entries others = refl
ends_next (Some next) entries others = others next

-- behind an entry that ends the run there is no state
ends_behind : (before : List Entry) (exit : Entry) (s : State) → is_exit exit ≡ true
    → behind s (before ++ exit ∷ []) ≡ None
ends_behind [] exit s h = ap (λ (o : Option State). next_behind o []) (no_state exit s h)
ends_behind (entry ∷ before) exit s h =
    ends_next (state_behind (step_of entry s) s) (before ++ exit ∷ []) (λ next. ends_behind before exit next h)

-- entries in front of some bytes are in front of the script
in_script : BeginningStays → (ended : Bool) (bytes rest left : List ℕ) (entries : List Entry)
    → (ended ≡ true → rest ≡ []) → Begins ended bytes entries left
    → (behind : List ℕ) × Begins true (bytes ++ rest) entries behind
in_script stays false bytes rest left entries whole begins =
    (left ++ rest, stays true bytes rest entries left begins)
in_script stays true bytes rest left entries whole begins =
    let same : bytes ++ rest ≡ bytes = ap (λ more. bytes ++ more) (whole refl) ∙ append-nil bytes in
    (left, subst (λ (bs : List ℕ). Begins true bs entries left) (sym same) begins)

pub solved_entries : BeginningStays → SolvedEntries
solved_entries stays script bytes rest left ended entries before exit all whole begins last is_exit =
    let found = in_script stays ended bytes rest left entries whole begins in
    record {
      rest = found.0;
      begins = subst (λ (bs : List ℕ). Begins true bs entries found.0) (sym all) found.1;
      last = inr (ap (behind state.start) last ∙ ends_behind before exit state.start is_exit);
    }

pub whole_entries : WholeEntries
whole_entries script left entries begins none = record { rest = left; begins = begins; last = inl none }
