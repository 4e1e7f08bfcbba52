-- A script is read piece by piece, and answered.
use Rattle.sb_session.proofs.Words.{◌≡◌, ◌+◌, ◌<◌, ◌≤◌, ℕ, Bool, false, List, [], ◌++◌, length, take, drop, Option, Some, None, option_map, IfSome, append_assoc, length-append, refl, sym, ap, ◌∙◌, subst, inl, inr, AllAnswered, AllRead, Asked, Cut, CutInScript, CutShort, HoldsNoEntry, IsFront, IsTracked, Moved, Outside, PastLimit, Pause, Pauses, ReadsFront, Run, SessionState, Sofar, State, StaysOpen, Underway, append-nil, asks_proof, beginning, beginnings, drop-drop, false≢true, is_proved, length-take-le, moved_by, moved_by-nothing, opened, read_at, read_at-moves, reading-zero, shortens_to_itself, state_of, take-append-drop, take-append-le}
use Rattle.sb_world.specs.declared.InPort.TheVariants as in_port
use Rattle.sb_reader.specs.Feeding as feed
use Rattle.sb_script.specs.State as meaning
use Rattle.sb_session.specs.declared.solve.Pause.TheVariants.{Exited, Waiting, Ended}
use Rattle.sb_session.specs.declared.solve.SolveStatus.TheVariants as status
use Rattle.sb_session.proofs.ReadingLemmas.{cut_between, open_gap_is_none}
use Rattle.sb_session.proofs.WritingLemmas.{nothing_yet, work_reads}
use Rattle.sb_session.proofs.EndLemmas.{all_answered, EndsProof, exit_ended}

told_nothing : (left : Option (List ℕ)) → IfSome left (λ l. l ≡ [] ++ drop 0 l)
told_nothing None = tt
told_nothing (Some l) = refl

-- nothing is read yet
pub underway_start : (asked : Asked) (old now : Outside) (kept : feed.Unanswered) (session : SessionState)
    → now ≡ opened asked old → kept ≡ ([], false) → state_of session.stack ≡ meaning.start → session.ended ≡ false
    → IsTracked session beginning → is_proved session ≡ asks_proof asked → Underway asked old [] kept session now
underway_start asked old now kept session e same state going tracked kind = record {
  kind = kind;
  front = told_nothing (opened asked old).script_in.left;
  goes_on = ap (λ (k : feed.Unanswered). k.1) same;
  left = record {
    sofar = record {
      entries = [];
      writes = [];
      left = [];
      shorter = subst (λ (k : feed.Unanswered). feed.ShortensTo [] k.0) (sym same) (shortens_to_itself []);
      progress = beginning;
      tracked = tracked;
      answered = record { begins = refl; along = (refl, ap (λ (s : State). (s, beginning)) state) };
      outside = e ∙ nothing_yet (opened asked old);
    };
    none = subst (λ (k : feed.Unanswered). HoldsNoEntry k.1 k.0) (sym same) (open_gap_is_none false [] refl);
    goes_on = going;
  };
}

-- the run is cut short in the script
pub cut_in_script : (asked : Asked) (old now : Outside) → CutInScript asked old now → CutShort asked old now
cut_in_script asked old now cut = inr (inr cut)

-- the run is cut short before any byte is read
pub opened_cut : (asked : Asked) (old now : Outside) → now ≡ opened asked old → CutShort asked old now
opened_cut asked old now e = cut_in_script asked old now (record {
  bytes = [];
  ended = false;
  front = told_nothing (opened asked old).script_in.left;
  whole = λ e. absurd (false≢true e);
  cut = inl (record {
    entries = [];
    left = [];
    writes = [];
    s = beginnings;
    answered = record { begins = refl; along = (refl, refl) };
    outside = e ∙ nothing_yet (opened asked old);
  });
})

-- no further byte is read
pub underway_cut : (asked : Asked) (old : Outside) (bytes : List ℕ) (kept : feed.Unanswered) (session : SessionState)
    (before now : Outside) → Underway asked old bytes kept session before → now ≡ before → CutShort asked old now
underway_cut asked old bytes kept session before now way same = cut_in_script asked old now (record {
  bytes = bytes;
  ended = false;
  front = way.front;
  whole = λ e. absurd (false≢true e);
  cut = subst (λ (proved : Bool). Cut proved (opened asked old) bytes false now) way.kind
      (subst (λ (ended : Bool). Cut (is_proved session) (opened asked old) bytes ended now) way.goes_on
      (inl (cut_between (opened asked old) bytes kept session now
      (subst (λ (o : Outside). Sofar (opened asked old) bytes kept session o) (sym same)
      way.left.sofar))));
})

-- what is left of the script
left_of : (asked : Asked) (old : Outside) (bytes : List ℕ) (kept : feed.Unanswered) (session : SessionState)
    (before : Outside) → Underway asked old bytes kept session before
    → before.script_in.left ≡ option_map (drop (length bytes)) (opened asked old).script_in.left
left_of asked old bytes kept session before way =
    ap (λ (o : Outside). o.script_in.left) way.left.sofar.outside
    ∙ ap (λ (n : ℕ). option_map (drop n) (opened asked old).script_in.left)
    (work_reads (length bytes) way.left.sofar.writes)

told_piece : (left : Option (List ℕ)) (bytes buffer : List ℕ) (count : ℕ) → count ≤ length buffer
    → IfSome left (λ l. l ≡ bytes ++ drop (length bytes) l)
    → IfSome (option_map (drop (length bytes)) left) (λ l. ReadsFront l buffer count)
    → IfSome left (λ l. l ≡ (bytes ++ take count buffer) ++ drop (length (bytes ++ take count buffer)) l)
told_piece None bytes buffer count h front reads = front
told_piece (Some l) bytes buffer count h front reads =
    front
    ∙ ap (λ (r : List ℕ). bytes ++ r) (sym (take-append-drop count (drop (length bytes) l))
    ∙ ap (λ (r : List ℕ). r ++ drop count (drop (length bytes) l)) (sym reads.bytes))
    ∙ sym (append_assoc bytes (take count buffer) (drop count (drop (length bytes) l)))
    ∙ ap (λ (r : List ℕ). (bytes ++ take count buffer) ++ r)
    (drop-drop count (length bytes) l
    ∙ ap (λ (n : ℕ). drop n l)
    (sym (length-append bytes (take count buffer)
    ∙ ap (λ (n : ℕ). length bytes + n) (length-take-le count buffer h))))

-- the piece that is read comes next in the script
pub front_on : (asked : Asked) (old : Outside) (bytes buffer piece : List ℕ) (count : ℕ) (kept : feed.Unanswered)
    (session : SessionState) (before : Outside) → count ≤ length buffer → piece ≡ take count buffer
    → Underway asked old bytes kept session before → IfSome before.script_in.left (λ left. ReadsFront left buffer count)
    → IsFront (bytes ++ piece) (opened asked old)
front_on asked old bytes buffer piece count kept session before h e way reads =
    subst (λ (p : List ℕ). IsFront (bytes ++ p) (opened asked old)) (sym e)
    (told_piece (opened asked old).script_in.left bytes buffer count h way.front
    (subst (λ (left : Option (List ℕ)). IfSome left (λ l. ReadsFront l buffer count))
    (left_of asked old bytes kept session before way) reads))

told_all : (left : Option (List ℕ)) (bytes buffer : List ℕ) (count : ℕ) → count ≡ 0
    → IfSome left (λ l. l ≡ bytes ++ drop (length bytes) l)
    → IfSome (option_map (drop (length bytes)) left) (λ l. ReadsFront l buffer count) → IfSome left (λ l. l ≡ bytes)
told_all None bytes buffer count h front reads = front
told_all (Some l) bytes buffer count h front reads = front ∙ ap (λ (r : List ℕ). bytes ++ r) (reads.progress h)
    ∙ append-nil bytes

nothing_read : (o : Outside) → read_at in_port.Script 0 o ≡ o
nothing_read o = read_at-moves in_port.Script 0 o
    ∙ (ap (λ (m : Moved). moved_by m o) (reading-zero in_port.Script) ∙ moved_by-nothing o)

-- a read of nothing shows the end
pub all_read : (asked : Asked) (old : Outside) (bytes buffer : List ℕ) (count : ℕ) (kept : feed.Unanswered)
    (session : SessionState) (before now : Outside) → count ≡ 0 → length bytes < asked.limit
    → Underway asked old bytes kept session before → now ≡ read_at in_port.Script count before
    → IfSome before.script_in.left (λ left. ReadsFront left buffer count) → AllRead asked old bytes kept session now
all_read asked old bytes buffer count kept session before now h below way moved reads = record {
  kind = way.kind;
  is_read = record {
    all = told_all (opened asked old).script_in.left bytes buffer count h way.front
        (subst (λ (left : Option (List ℕ)). IfSome left (λ l. ReadsFront l buffer count))
        (left_of asked old bytes kept session before way) reads);
    below_limit = below;
  };
  goes_on = way.goes_on;
  sofar = subst (λ (o : Outside). Sofar (opened asked old) bytes kept session o)
      (sym (moved ∙ ap (λ (n : ℕ). read_at in_port.Script n before) h ∙ nothing_read before))
      way.left.sofar;
}

-- the run is cut short at a piece
pub piece_cut : (asked : Asked) (old : Outside) (bytes : List ℕ) (proved : Bool) (now : Outside)
    → proved ≡ asks_proof asked → IsFront bytes (opened asked old)
    → Cut proved (opened asked old) bytes false now → CutShort asked old now
piece_cut asked old bytes proved now kind front cut =
    cut_in_script asked old now (record {
      bytes = bytes;
      ended = false;
      front = front;
      whole = λ e. absurd (false≢true e);
      cut = subst (λ (b : Bool). Cut b (opened asked old) bytes false now) kind cut;
    })

-- (exit) is answered, and the proof is ended
pub piece_exit : (asked : Asked) (old : Outside) (bytes : List ℕ) (kept : feed.Unanswered) (session : SessionState)
    (before now : Outside) → kept.1 ≡ false → is_proved session ≡ asks_proof asked → IsFront bytes (opened asked old)
    → length bytes ≤ asked.limit → Pauses Exited (opened asked old) bytes kept session before
    → EndsProof session before now → Run asked status.Done old now
piece_exit asked old bytes kept session before now goes_on kind front within exit ends =
    inr (exit_ended asked old bytes kept.1 session before now kind front
    (λ e. absurd (false≢true (sym goes_on ∙ e))) within exit ends)

-- the piece is answered
pub piece_on : (pause : Pause) (asked : Asked) (old : Outside) (bytes : List ℕ) (kept : feed.Unanswered)
    (session : SessionState) (now : Outside) → (pause ≡ Exited → ⊥) → kept.1 ≡ false
    → is_proved session ≡ asks_proof asked → IsFront bytes (opened asked old)
    → Pauses pause (opened asked old) bytes kept session now → Underway asked old bytes kept session now
piece_on Exited asked old bytes kept session now ne going kind front h = absurd (ne refl)
piece_on Waiting asked old bytes kept session now ne going kind front h =
    record { kind = kind; front = front; goes_on = going; left = h.1 }
piece_on (Ended _) asked old bytes kept session now ne going kind front h = absurd (false≢true (sym going ∙ h.0))

-- it did not end the session
pub stays_open : (pause : Pause) (session : SessionState) → (pause ≡ Exited → ⊥) → StaysOpen pause session
    → session.ended ≡ false
stays_open Exited session ne h = absurd (ne refl)
stays_open Waiting session ne h = h
stays_open (Ended _) session ne h = h

-- so many bytes as the limit are read
pub past_limit : (asked : Asked) (old : Outside) (bytes : List ℕ) (kept : feed.Unanswered) (session : SessionState)
    (now : Outside) → length bytes ≡ asked.limit → Underway asked old bytes kept session now → PastLimit asked old now
past_limit asked old bytes kept session now h way = record {
  bytes = bytes;
  left = way.left.sofar.left;
  front = way.front;
  at_limit = h;
  answered = subst (λ (b : Bool). AllAnswered b (opened asked old) bytes false way.left.sofar.left now) way.kind
      (all_answered (opened asked old) bytes kept session now false way.left way.goes_on);
}

module _ (asked : Asked) (old : Outside) (bytes buffer rest : List ℕ) (count : ℕ) (kept : feed.Unanswered)
    (session : SessionState)
    (before : Outside)
    (fits : count ≤ length buffer) (way : Underway asked old bytes kept session before)
    (reads : IfSome before.script_in.left (λ left. ReadsFront left buffer count)) where
  pub piece_length : length (take count (buffer ++ rest)) ≡ count
  piece_length = ap length (take-append-le count buffer rest fits) ∙ length-take-le count buffer fits

  pub piece_front : IsFront (bytes ++ take count (buffer ++ rest)) (opened asked old)
  piece_front = front_on asked old bytes buffer (take count (buffer ++ rest)) count kept session before fits
      (take-append-le count buffer rest fits) way reads

  pub piece_moved : (now : Outside) → now ≡ read_at in_port.Script count before
      → now ≡ read_at in_port.Script (length (take count (buffer ++ rest))) before
  piece_moved now moved = moved ∙ ap (λ (n : ℕ). read_at in_port.Script n before) (sym piece_length)

  pub longer : length (bytes ++ take count (buffer ++ rest)) ≡ length bytes + count
  longer = length-append bytes (take count (buffer ++ rest)) ∙ ap (λ (n : ℕ). length bytes + n) piece_length
