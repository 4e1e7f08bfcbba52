-- What the steps of the state make of an entry that is answered.
use Rattle.sb_session.proofs.Words.{◌≡◌, ◌⊎◌, ℕ, ◌<◌, Bool, true, false, if◌then◌else◌, List, [], ◌∷◌, length, take, Option, None, Some, Result, Ok, refl, sym, ap, ◌∙◌, inl, inr, subst, Vec, Global, Answering, Answers, AnswersCheck, AnswersEntry, Assumption, CutCheck, CutOrNot, CutReply, Entry, Event, Fails, Finding, Finds, FindsProved, FindsUnproved, IsMoved, IsReply, IsStep, IsTracked, IsUnder, Outside, Progress, SessionState, State, Stop, Verdict, Went, behind, event_of_leaving, events_of, fault_of, given_in, is_proved, leaving, leaving_in, progress_by, settled, state_of, step_of, verdict_text, went_of, with_lines, write_at, is_exits, entry_exits, Assertion, Step}
use Rattle.sb_world.specs.declared.OutPort.TheVariants as out_port
use Rattle.sb_script.specs.Steps as meaning
use Rattle.sb_stack.specs.declared.stack.Step.TheVariants as code
use Rattle.sb_session.specs.declared.command.Stop.TheVariants as stop
use Rattle.sb_session.specs.declared.command.Went.TheVariants.{Go, Exited}
use Rattle.sb_session.proofs.WritingLemmas.{one_written, one_cut}

abbrev pub went_by : Bool → Went
went_by ends = if ends then Exited else Go

-- the reply of a step that is no check
abbrev pub IsQuietReply : meaning.Step → State → List ℕ → State → Type 0
IsQuietReply (meaning.answers bytes new) s text after = (text ≡ bytes) × (after ≡ new)
IsQuietReply (meaning.leaves what bytes new) s text after = (text ≡ bytes) × (after ≡ new)
IsQuietReply (meaning.checks given) s text after = ⊥
IsQuietReply (meaning.exits bytes) s text after = (text ≡ bytes) × (after ≡ s)

is_reply : (Finds : Finding) (step : meaning.Step) (s : State) (text : List ℕ) (after : State)
    → IsQuietReply step s text after → IsReply Finds step s [] None text after
is_reply Finds (meaning.checks given) s text after h = absurd h
is_reply Finds _ s text after h = (refl, refl, h.0, h.1)

-- a reply of an entry that is no check, whether it ends the run, what its proof meets, and the state after it
pub record Replied (step : meaning.Step) (ends : Bool) (text : List ℕ) (es : List Event) (s after : State) : Type 0
  where
    pub ends_run : is_exits step ≡ ends
    pub reply : IsQuietReply step s text after
    pub events : events_of step s ≡ es

pub by_answer : (step : meaning.Step) (reply : Vec ℕ Global) (text : List ℕ) (s after : State) → text ≡ reply.items
    → IsStep step (code.Answer reply) s after → Replied step false text [] s after
by_answer (meaning.answers bytes t) reply text s after same h =
    record { ends_run = refl; reply = (same ∙ h.0, h.1); events = refl }
by_answer _ reply text s after same h = absurd h

pub by_exit : (step : meaning.Step) (reply : Vec ℕ Global) (text : List ℕ) (s after : State) → text ≡ reply.items
    → IsStep step (code.Exit reply) s after → Replied step true text [] s after
by_exit (meaning.exits bytes) reply text s after same h =
    record { ends_run = refl; reply = (same ∙ h.0, h.1); events = refl }
by_exit _ reply text s after same h = absurd h

leaving_event : (level : Option ℕ) → event_of_leaving (leaving_in level) ≡ leaving level
leaving_event (Some level) = refl
leaving_event None = refl

pub by_left : (step : meaning.Step) (reply : Vec ℕ Global) (level : Option ℕ) (text : List ℕ) (s after : State)
    → text ≡ reply.items → IsStep step (code.Left reply level) s after
    → Replied step false text (leaving level ∷ []) s after
by_left (meaning.leaves what bytes t) reply level text s after same h = record {
  ends_run = refl;
  reply = (same ∙ h.0, h.1.1);
  events = ap (λ (w : meaning.Leaving). event_of_leaving w ∷ []) h.1.0
      ∙ ap (λ (e : Event). e ∷ []) (leaving_event level);
}
by_left _ reply level text s after same h = absurd h

-- what a step that is answered makes of the live assertions
pub moved_by : {E : Type 0} (r : Result Step E) (step known : Step) (old new : List Assertion) → r ≡ Ok step
    → step ≡ known → IsMoved r old new → IsMoved {E = E} (Ok known) old new
moved_by {E = E} r step known old new is now h =
    subst (λ (x : Result Step E). IsMoved x old new) (is ∙ ap Ok now) h

-- the step of a check, which is under these assumptions
pub by_check : (step : meaning.Step) (s same : State) (given : List Assumption) → IsStep step code.Check s same
    → IsUnder step code.Check given → (step ≡ meaning.checks given) × (same ≡ s)
by_check (meaning.checks others) s same given h under = (under, h)
by_check _ s same given h under = absurd h

-- An entry that is no check.

answering_by : (proved : Bool) (entry : Entry) (ends : Bool) (text : List ℕ) (es : List Event) (s after : State)
    (p : Progress) → Replied (step_of entry s) ends text es s after
    → Answering proved (s, p) entry [] text None (after, progress_by proved es p)
answering_by true entry ends text es s after p h = record {
  replies = is_reply (FindsProved p (behind es p)) (step_of entry s) s text after h.reply;
  keeps = sym (ap (λ (fs : List Event). behind fs p) h.events);
}
answering_by false entry ends text es s after p h =
    (is_reply FindsUnproved (step_of entry s) s text after h.reply, refl)

answers_by : (proved : Bool) (entry : Entry) (ends : Bool) (text : List ℕ) (es : List Event) (s after : State)
    (p : Progress) → Replied (step_of entry s) ends text es s after
    → Answers proved (s, p) entry ((out_port.Answers, text) ∷ []) (after, progress_by proved es p)
answers_by proved entry ends text es s after p h = record {
  lines = [];
  reply = text;
  found = None;
  answered = answering_by proved entry ends text es s after p h;
  written = refl;
}

-- an entry that is answered whole
pub whole_reply_by : (entry : Entry) (ends : Bool) (text : List ℕ) (es : List Event) (session after : SessionState)
    (old new : Outside)
    → ((p : Progress) → IsTracked session p → IsTracked after (progress_by (is_proved session) es p))
    → Replied (step_of entry (state_of session.stack)) ends text es (state_of session.stack) (state_of after.stack)
    → new ≡ write_at out_port.Answers text old
    → (went_by ends ≡ went_of entry) × AnswersEntry entry session after old new
whole_reply_by entry ends text es session after old new stays h e = (
  ap went_by (sym h.ends_run ∙ entry_exits entry (state_of session.stack)),
  λ p tracked. record {
    writes = (out_port.Answers, text) ∷ [];
    progress = progress_by (is_proved session) es p;
    answers = answers_by (is_proved session) entry ends text es (state_of session.stack) (state_of after.stack) p h;
    tracked = stays p tracked;
    outside = one_written out_port.Answers text old new e;
  },
)

no_event : (proved : Bool) (p : Progress) → progress_by proved [] p ≡ p
no_event true p = refl
no_event false p = refl

-- and which the proof meets nothing by
pub whole_reply : (entry : Entry) (ends : Bool) (text : List ℕ) (session after : SessionState) (old new : Outside)
    → ((p : Progress) → IsTracked session p → IsTracked after p)
    → Replied (step_of entry (state_of session.stack)) ends text [] (state_of session.stack) (state_of after.stack)
    → new ≡ write_at out_port.Answers text old
    → (went_by ends ≡ went_of entry) × AnswersEntry entry session after old new
whole_reply entry ends text session after old new stays h e =
    whole_reply_by entry ends text [] session after old new
    (λ p tracked. subst (IsTracked after) (sym (no_event (is_proved session) p)) (stays p tracked)) h e

-- an entry whose answer is cut
pub cut_reply : (entry : Entry) (ends : Bool) (text : List ℕ) (es : List Event) (session : SessionState) (after : State)
    (old new : Outside) → Replied (step_of entry (state_of session.stack)) ends text es (state_of session.stack) after
    → ((out : ℕ) × (out < length text) × (new ≡ write_at out_port.Answers (take out text) old))
    → CutOrNot entry session old new
cut_reply entry ends text es session after old new h cut p tracked = inr (record {
  writes = (out_port.Answers, text) ∷ [];
  after = (after, progress_by (is_proved session) es p);
  answers = answers_by (is_proved session) entry ends text es (state_of session.stack) after p h;
  cut = one_cut out_port.Answers text old new cut;
})

-- A check.

answering_check : (proved : Bool) (entry : Entry) (s : State) (given : List Assumption) (p q : Progress)
    (lines : List ℕ) (v : Verdict) (after : State) → step_of entry s ≡ meaning.checks given
    → Finds proved p q s given lines v → after ≡ settled v s
    → Answering proved (s, p) entry lines (verdict_text v) (Some v) (after, q)
answering_check true entry s given p q lines v after step finds state = record {
  replies = subst (λ (t : meaning.Step). IsReply (FindsProved p q) t s lines (Some v) (verdict_text v) after) (sym step)
      (v, finds, refl, refl, state);
  keeps = tt;
}
answering_check false entry s given p q lines v after step finds state = (
  subst (λ (t : meaning.Step). IsReply FindsUnproved t s lines (Some v) (verdict_text v) after) (sym step)
      (v, finds.0, refl, refl, state),
  finds.1,
)

check_exits : (entry : Entry) (s : State) (given : List Assumption) → step_of entry s ≡ meaning.checks given
    → Go ≡ went_of entry
check_exits entry s given step = ap went_by (sym (ap is_exits step) ∙ entry_exits entry s)

-- the state that is checked is the one before
answers_check : (entry : Entry) (session before : SessionState) (after : State) (p q : Progress) (lines : List ℕ)
    (v : Verdict) → (step_of entry (state_of session.stack) ≡ meaning.checks (given_in before.stack))
    × (state_of before.stack ≡ state_of session.stack) → is_proved before ≡ is_proved session
    → Finds (is_proved before) p q (state_of before.stack) (given_in before.stack) lines v
    → after ≡ settled v (state_of before.stack)
    → Answers (is_proved session) (state_of session.stack, p) entry
    (with_lines lines ((out_port.Answers, verdict_text v) ∷ [])) (after, q)
answers_check entry session before after p q lines v step kind finds state = record {
  lines = lines;
  reply = verdict_text v;
  found = Some v;
  answered = answering_check (is_proved session) entry (state_of session.stack) (given_in before.stack) p q lines v
      after step.0 (subst (λ (b : Bool). Finds b p q (state_of session.stack) (given_in before.stack) lines v) kind
      (subst (λ (s : State). Finds (is_proved before) p q s (given_in before.stack) lines v) step.1 finds))
      (state ∙ ap (settled v) step.1);
  written = refl;
}

pub check_replies : (entry : Entry) (session before after : SessionState) (old new : Outside)
    → IsStep (step_of entry (state_of session.stack)) code.Check (state_of session.stack) (state_of before.stack)
    → IsUnder (step_of entry (state_of session.stack)) code.Check (given_in before.stack)
    → is_proved before ≡ is_proved session → ((p : Progress) → IsTracked session p → IsTracked before p)
    → ((p : Progress) → IsTracked before p → AnswersCheck p before after old new)
    → (Go ≡ went_of entry) × AnswersEntry entry session after old new
check_replies entry session before after old new is under kind stays answers =
    let step = by_check (step_of entry (state_of session.stack)) (state_of session.stack) (state_of before.stack)
    (given_in before.stack) is under in (
      check_exits entry (state_of session.stack) (given_in before.stack) step.0,
      λ p tracked.
          let h = answers p (stays p tracked) in
          record {
            writes = with_lines h.lines ((out_port.Answers, verdict_text h.v) ∷ []);
            progress = h.progress;
            answers = answers_check entry session before (state_of after.stack) p h.progress h.lines h.v step kind
                h.finds h.state;
            tracked = h.tracked;
            outside = h.outside;
          },
    )

-- a check whose proof or answer is cut
pub cut_check_reply : (entry : Entry) (session before : SessionState) (old new : Outside)
    → IsStep (step_of entry (state_of session.stack)) code.Check (state_of session.stack) (state_of before.stack)
    → IsUnder (step_of entry (state_of session.stack)) code.Check (given_in before.stack)
    → is_proved before ≡ is_proved session → ((p : Progress) → IsTracked session p → IsTracked before p)
    → ((p : Progress) → IsTracked before p → (new ≡ old) ⊎ CutCheck p before old new) → CutOrNot entry session old new
cut_check_reply entry session before old new is under kind stays cuts p tracked = by_cut (cuts p (stays p tracked))
  where
    by_cut : (new ≡ old) ⊎ CutCheck p before old new → (new ≡ old) ⊎ CutReply p entry session old new
    by_cut (inl same) = inl same
    by_cut (inr h) = inr (record {
      writes = with_lines h.lines ((out_port.Answers, verdict_text h.v) ∷ []);
      after = (settled h.v (state_of before.stack), h.progress);
      answers = answers_check entry session before (settled h.v (state_of before.stack)) p h.progress h.lines h.v
          (by_check (step_of entry (state_of session.stack)) (state_of session.stack) (state_of before.stack)
          (given_in before.stack) is under) kind h.finds refl;
      cut = h.cut;
    })

-- Whether the session has ended plays no part in what an entry has for an answer.

pub answers_regardless : (entry : Entry) (session after : SessionState) (e f : Bool) (old new : Outside)
    → AnswersEntry entry session after old new
    → AnswersEntry entry (record session { ended = e }) (record after { ended = f }) old new
answers_regardless entry session after e f old new h p tracked =
    let a = h p tracked in
    record {
      writes = a.writes;
      progress = a.progress;
      answers = a.answers;
      tracked = a.tracked;
      outside = a.outside;
    }

-- an entry of a session that goes on is not answered
pub fails_by : (s : Stop) (entry : Entry) (old new : SessionState) (before after : Outside) → old.ended ≡ false
    → new.ended ≡ true → CutOrNot entry old before after → (s ≡ stop.Spent → is_proved old ≡ false)
    → Fails (fault_of s) entry old new before after
fails_by stop.Fault entry old new before after going ends cut spent = (going, ends, cut)
fails_by stop.NoMemory entry old new before after going ends cut spent = (going, ends, cut)
fails_by stop.Spent entry old new before after going ends cut spent = (spent refl, going, ends, cut)
