-- What becomes of what came next.
use Rattle.sb_session.proofs.Words.{◌≡◌, Bool, true, false, if◌then◌else◌, List, ℕ, sym, ◌∙◌, refl, Cut, CutOrNot, Goes, IsEntry, Outside, Pauses, SessionState, Sofar, Takes, Went, entry_of, is_exit, is_proved, Next}
use Rattle.sb_reader.specs.declared.feed.Next.TheVariants as next
use Rattle.sb_reader.specs.Feeding as feed
use Rattle.sb_session.specs.declared.command.Went.TheVariants.{Go, Exited}
use Rattle.sb_session.specs.declared.solve.Pause.TheVariants as pause
use Rattle.sb_session.proofs.ReadingLemmas.{answer_on, answer_exit, cut_answer, wait_on}

takes_entry : (n : Next) (old new : feed.Unanswered) → IsEntry n → feed.IsNext n old new → Takes (entry_of n) old new
takes_entry (next.Command form) old new is h = h
takes_entry (next.Refused refusal) old new is h = h
takes_entry next.NotYet old new is h = absurd is
takes_entry (next.Ended ending) old new is h = absurd is

no_exit : (b : Bool) → Go ≡ (if b then Exited else Go) → b ≡ false
no_exit true e = cc
no_exit false e = refl

an_exit : (b : Bool) → Exited ≡ (if b then Exited else Go) → b ≡ true
an_exit true e = refl
an_exit false e = cc

-- the entry is answered, and the next may come
pub goes : (n : Next) (went : Went) (session session' : SessionState) (before now : Outside) → IsEntry n → went ≡ Go
    → Goes went (entry_of n) session session' before now
    → (opened : Outside) (bytes : List ℕ) (old new : feed.Unanswered) → feed.IsNext n old new
    → Sofar opened bytes old session before → Sofar opened bytes new session' now
goes n went session session' before now is e h opened bytes old new answers sofar =
    answer_on opened bytes (entry_of n) old new session session' before now
    (no_exit (is_exit (entry_of n)) (sym e ∙ h.went_is)) h.same_kind (takes_entry n old new is answers) h.answers sofar

-- the entry was (exit)
pub exits : (n : Next) (went : Went) (session session' : SessionState) (before now : Outside) → IsEntry n
    → went ≡ Exited → Goes went (entry_of n) session session' before now → (opened : Outside) (bytes : List ℕ)
    (old new : feed.Unanswered) → feed.IsNext n old new → Sofar opened bytes old session before
    → Pauses pause.Exited opened bytes new session' now
exits n went session session' before now is e h opened bytes old new answers sofar =
    answer_exit opened bytes (entry_of n) old new session session' before now
    (an_exit (is_exit (entry_of n)) (sym e ∙ h.went_is)) h.same_kind (takes_entry n old new is answers) h.answers sofar

-- the entry is not answered, or not whole
pub fails : (n : Next) (session : SessionState) (before now : Outside) → IsEntry n
    → CutOrNot (entry_of n) session before now
    → (opened : Outside) (bytes : List ℕ) (old new : feed.Unanswered) → feed.IsNext n old new
    → Sofar opened bytes old session before → Cut (is_proved session) opened bytes old.1 now
fails n session before now is h opened bytes old new answers sofar =
    cut_answer opened bytes (entry_of n) old new session before now (takes_entry n old new is answers) h sofar

-- no whole entry is there
pub waits : (n : Next) (session : SessionState) (now : Outside) → n ≡ next.NotYet → session.ended ≡ false
    → (opened : Outside) (bytes : List ℕ) (old new : feed.Unanswered) → feed.IsNext n old new
    → Sofar opened bytes old session now → Pauses pause.Waiting opened bytes new session now
waits n session now e going opened bytes old new answers sofar =
    wait_on opened bytes old new session now (rw e at answers) going sofar
