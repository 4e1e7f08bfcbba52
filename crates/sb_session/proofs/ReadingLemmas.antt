-- Reading on and answering on: what each step makes of what was read and answered.
use Rattle.sb_session.proofs.Words.{◌≡◌, ◌⊎◌, ℕ, Bool, true, false, if◌then◌else◌, List, [], ◌∷◌, ◌++◌, length, append_assoc, refl, sym, ap, ◌∙◌, inl, inr, subst, Along, Answered, Answers, AnswersEntry, Begins, Cut, CutBetween, CutOrNot, CutReply, Entry, GoesOn, HoldsNoEntry, IsTracked, NoneLeft, Outside, SessionState, Sofar, Takes, UpToExit, Waits, append-nil, beginning_grows, beginnings, end_writes, is_exit, is_open_gap, is_proved, same_entry, shortens_to_itself, shortens_twice, state_of}
use Rattle.sb_reader.specs.Feeding as feed
use Rattle.sb_session.proofs.WritingLemmas.{writes_on, front-longer}

-- one step more
along_grows : {S W : Type 0} (R : S → Entry → List W → S → Type 0) (s : S) (entries : List Entry) (writes : List W)
    (t : S) (entry : Entry) (own : List W) (after : S) → Along R s entries writes t → R t entry own after
    → Along R s (entries ++ entry ∷ []) (writes ++ own) after
along_grows {S = S} {W = W} R s [] writes t entry own after h step = (
  own,
  [],
  after,
  subst (λ (u : S). R u entry own after) h.1 step,
  ap (λ (x : List W). x ++ own) h.0 ∙ sym (append-nil own),
  (refl, refl),
)
along_grows {S = S} {W = W} R s (first ∷ entries) writes t entry own after h step = (
  h.0,
  h.1 ++ own,
  h.2,
  h.3,
  ap (λ (x : List W). x ++ own) h.4 ∙ append_assoc h.0 h.1 own,
  along_grows R h.2 entries h.1 t entry own after h.5 step,
)

-- the entries with the next one
begins_on : (opened : Outside) (bytes : List ℕ) (entry : Entry) (old new : feed.Unanswered) (s : SessionState)
    (before : Outside) (sofar : Sofar opened bytes old s before) → Takes entry old new
    → Begins old.1 bytes (sofar.entries ++ entry ∷ []) new.0
begins_on opened bytes entry old new s before sofar takes =
    let whole = same_entry old.1 entry sofar.left old.0 takes.0 new.0 sofar.shorter takes.1 takes.3 in
    beginning_grows old.1 bytes sofar.entries entry whole.0 new.0
    (subst (λ (left : List ℕ). Begins old.1 bytes sofar.entries left) whole.1 sofar.answered.begins) whole.2

-- one more entry is answered
pub answer_on : (opened : Outside) (bytes : List ℕ) (entry : Entry) (old new : feed.Unanswered) (s after : SessionState)
    (before now : Outside) → is_exit entry ≡ false → is_proved after ≡ is_proved s → Takes entry old new
    → AnswersEntry entry s after before now → Sofar opened bytes old s before → Sofar opened bytes new after now
answer_on opened bytes entry old new s after before now goes kind takes answering sofar =
    let answers = answering sofar.progress sofar.tracked in
    record {
      entries = sofar.entries ++ entry ∷ [];
      writes = sofar.writes ++ answers.writes;
      left = new.0;
      shorter = shortens_to_itself new.0;
      progress = answers.progress;
      tracked = answers.tracked;
      answered = record {
        begins = subst (λ (ended : Bool). Begins ended bytes (sofar.entries ++ entry ∷ []) new.0) (sym takes.2)
            (begins_on opened bytes entry old new s before sofar takes);
        along = subst (λ (proved : Bool). Along (GoesOn proved) beginnings (sofar.entries ++ entry ∷ [])
            (sofar.writes ++ answers.writes) (state_of after.stack, answers.progress)) (sym kind)
            (along_grows (GoesOn (is_proved s)) beginnings sofar.entries sofar.writes
            (state_of s.stack, sofar.progress) entry answers.writes (state_of after.stack, answers.progress)
            sofar.answered.along (goes, answers.answers));
      };
      outside = writes_on opened before now (length bytes) sofar.writes answers.writes sofar.outside answers.outside;
    }

-- (exit) is answered
pub answer_exit : (opened : Outside) (bytes : List ℕ) (entry : Entry) (old new : feed.Unanswered)
    (s after : SessionState) (before now : Outside) → is_exit entry ≡ true → is_proved after ≡ is_proved s
    → Takes entry old new → AnswersEntry entry s after before now → Sofar opened bytes old s before
    → (up : UpToExit (is_proved after) opened bytes new.1 now) × IsTracked after up.after.1
answer_exit opened bytes entry old new s after before now exits kind takes answering sofar =
    let answers = answering sofar.progress sofar.tracked in (
      record {
        entries = sofar.entries;
        exit = entry;
        left = new.0;
        writes = sofar.writes;
        s = (state_of s.stack, sofar.progress);
        own = answers.writes;
        after = (state_of after.stack, answers.progress);
        begins = subst (λ (ended : Bool). Begins ended bytes (sofar.entries ++ entry ∷ []) new.0) (sym takes.2)
            (begins_on opened bytes entry old new s before sofar takes);
        along = subst (λ (proved : Bool). Along (GoesOn proved) beginnings sofar.entries sofar.writes
            (state_of s.stack, sofar.progress)) (sym kind) sofar.answered.along;
        is_exit = exits;
        answers = subst (λ (proved : Bool). Answers proved (state_of s.stack, sofar.progress) entry answers.writes
            (state_of after.stack, answers.progress)) (sym kind) answers.answers;
        outside = writes_on opened before now (length bytes) sofar.writes answers.writes sofar.outside answers.outside;
      },
      answers.tracked,
    )

-- the run is cut short between two entries
pub cut_between : (opened : Outside) (bytes : List ℕ) (kept : feed.Unanswered) (s : SessionState) (now : Outside)
    → Sofar opened bytes kept s now → CutBetween (is_proved s) opened bytes kept.1 now
cut_between opened bytes kept s now sofar = record {
  entries = sofar.entries;
  left = sofar.left;
  writes = sofar.writes;
  s = (state_of s.stack, sofar.progress);
  answered = sofar.answered;
  outside = sofar.outside;
}

-- the run is cut short at an entry
cut_at : (opened : Outside) (bytes : List ℕ) (entry : Entry) (old new : feed.Unanswered) (s : SessionState)
    (before now : Outside) → Takes entry old new → (sofar : Sofar opened bytes old s before)
    → (now ≡ before) ⊎ CutReply sofar.progress entry s before now → Cut (is_proved s) opened bytes old.1 now
cut_at opened bytes entry old new s before now takes sofar (inl same) =
    inl (cut_between opened bytes old s now (subst (λ (o : Outside). Sofar opened bytes old s o) (sym same) sofar))
cut_at opened bytes entry old new s before now takes sofar (inr cut) = inr (record {
  entries = sofar.entries;
  left = sofar.left;
  writes = sofar.writes;
  s = (state_of s.stack, sofar.progress);
  answered = sofar.answered;
  own = cut.writes ++ (if is_exit entry then end_writes (is_proved s) cut.after.1 else []);
  next = inl (record {
    next = entry;
    behind = new.0;
    after = cut.after;
    answer = cut.writes;
    begins = begins_on opened bytes entry old new s before sofar takes;
    answers = cut.answers;
    all = refl;
  });
  front = cut.cut.0;
  proper = front-longer cut.cut.0 cut.writes (if is_exit entry then end_writes (is_proved s) cut.after.1 else [])
      cut.cut.1;
  outside = writes_on opened before now (length bytes) sofar.writes cut.cut.0 sofar.outside cut.cut.2;
})

pub cut_answer : (opened : Outside) (bytes : List ℕ) (entry : Entry) (old new : feed.Unanswered) (s : SessionState)
    (before now : Outside) → Takes entry old new
    → CutOrNot entry s before now → Sofar opened bytes old s before → Cut (is_proved s) opened bytes old.1 now
cut_answer opened bytes entry old new s before now takes cut sofar =
    cut_at opened bytes entry old new s before now takes sofar (cut sofar.progress sofar.tracked)

-- no entry is whole, and white space and comments are taken
pub wait_on : (opened : Outside) (bytes : List ℕ) (old new : feed.Unanswered) (session : SessionState) (now : Outside)
    → Waits old new → session.ended ≡ false → Sofar opened bytes old session now
    → (new.1 ≡ false) × NoneLeft opened bytes new session now
wait_on opened bytes old new session now waits going sofar = (
  waits.still,
  record {
    sofar = record {
      entries = sofar.entries;
      writes = sofar.writes;
      left = sofar.left;
      shorter = shortens_twice sofar.left old.0 new.0 sofar.shorter waits.shorter;
      progress = sofar.progress;
      tracked = sofar.tracked;
      answered = subst
          (λ (ended : Bool). Answered (is_proved session) bytes ended sofar.entries sofar.left sofar.writes
          (state_of session.stack, sofar.progress))
          (waits.more_may_come ∙ sym waits.still) sofar.answered;
      outside = sofar.outside;
    };
    none = subst (λ (ended : Bool). HoldsNoEntry ended new.0) (sym waits.still) waits.no_entry;
    goes_on = going;
  },
)

pub open_gap_is_none : (ended : Bool) (bytes : List ℕ) → is_open_gap bytes ≡ true → HoldsNoEntry ended bytes
open_gap_is_none ended bytes h =
    record { tokens = []; front = []; rest = bytes; split = refl; spelled = refl; open_entry = refl; no_token = inl h }
