-- All of the script is read.
use Rattle.sb_session.proofs.Words.{◌≡◌, ◌≤◌, ℕ, Bool, true, if◌then◌else◌, List, [], ◌∷◌, ◌++◌, length, drop, Option, Some, None, IfSome, append_assoc, refl, sym, ap, ◌∙◌, subst, inl, inr, arith, AllAnswered, AllRead, Answered, AnsweredToTheExit, AnsweredUnfinished, Asked, Begins, Cut, CutOf, CutShort, Entry, HoldsNoEntry, IsAll, IsFront, IsProperFront, IsRead, IsTracked, NoneLeft, Outside, Pause, Pauses, Progress, Run, SessionState, Sofar, UpToExit, Write, append-nil, asks_proof, beginning_stays, drop-length, end_writes, false≢true, is_clean, is_open_gap, is_proved, moved_by, opened, same_end, same_none, state_of, unfinished_line, unfinished_writes, work, write_at, writing_all, Ending}
use Rattle.sb_world.specs.declared.OutPort.TheVariants as out_port
use Rattle.sb_reader.specs.declared.feed.Ending.TheVariants.{Clean, Unfinished}
use Rattle.sb_reader.specs.Feeding as feed
use Rattle.sb_session.specs.declared.solve.Pause.TheVariants.{Exited, Waiting, Ended}
use Rattle.sb_session.specs.declared.solve.SolveStatus.TheVariants as status
use Rattle.sb_session.proofs.WritingLemmas.{writes_on, one_written, written_behind, front-longer, front-behind}

front_of : (left : Option (List ℕ)) (bytes : List ℕ) → IfSome left (λ l. l ≡ bytes)
    → IfSome left (λ l. l ≡ bytes ++ drop (length bytes) l)
front_of None bytes h = tt
front_of (Some l) bytes h =
    h ∙ sym (append-nil bytes) ∙ ap (λ (x : List ℕ). bytes ++ x) (sym (ap (drop (length bytes)) h ∙ drop-length bytes))

pub front_of_all : (bytes : List ℕ) (o : Outside) → IsAll bytes o → IsFront bytes o
front_of_all bytes o h = front_of o.script_in.left bytes h

-- no more bytes come
pub end_sofar : (asked : Asked) (old : Outside) (bytes : List ℕ) (kept finished : feed.Unanswered)
    (session : SessionState) (now : Outside) → finished ≡ (kept.0, true) → AllRead asked old bytes kept session now
    → Sofar (opened asked old) bytes finished session now
end_sofar asked old bytes kept finished session now e read =
    let sofar = read.sofar in
    let left = sofar.left in
    subst (λ (k : feed.Unanswered). Sofar (opened asked old) bytes k session now) (sym e) (record {
      entries = sofar.entries;
      writes = sofar.writes;
      left = left;
      shorter = sofar.shorter;
      answered = record {
        begins = subst (λ (b : List ℕ). Begins true b sofar.entries left) (append-nil bytes)
            (subst (λ (l : List ℕ). Begins true (bytes ++ []) sofar.entries l) (append-nil left)
            (beginning_stays true bytes [] sofar.entries left
            (subst (λ (ended : Bool). Begins ended bytes sofar.entries left) read.goes_on sofar.answered.begins)));
        along = sofar.answered.along;
      };
      progress = sofar.progress;
      tracked = sofar.tracked;
      outside = sofar.outside;
    })

-- all whole entries are answered
pub all_answered : (o : Outside) (bytes : List ℕ) (kept : feed.Unanswered) (session : SessionState) (now : Outside)
    (ended : Bool) (none : NoneLeft o bytes kept session now) → kept.1 ≡ ended
    → AllAnswered (is_proved session) o bytes ended none.sofar.left now
all_answered o bytes kept session now ended none e = record {
  entries = none.sofar.entries;
  writes = none.sofar.writes;
  s = (state_of session.stack, none.sofar.progress);
  answered = subst
      (λ (b : Bool). Answered (is_proved session) bytes b none.sofar.entries none.sofar.left none.sofar.writes
      (state_of session.stack, none.sofar.progress))
      e none.sofar.answered;
  none = same_none ended none.sofar.left kept.0 none.sofar.shorter
      (subst (λ (b : Bool). HoldsNoEntry b kept.0) e none.none);
  outside = none.sofar.outside;
}

-- the proof of a session is ended
abbrev pub EndsProof : SessionState → Outside → Outside → Type 0
EndsProof session before now = (p : Progress) → IsTracked session p
    → now ≡ moved_by (writing_all (end_writes (is_proved session) p)) before

-- less than all of its end is written
abbrev pub CutsEnd : SessionState → Outside → Outside → Type 0
CutsEnd session before now = (p : Progress) → IsTracked session p → CutOf (end_writes (is_proved session) p) before now

-- (exit) is answered, and the proof is ended
pub exit_ended : (asked : Asked) (old : Outside) (bytes : List ℕ) (ended : Bool) (session : SessionState)
    (before now : Outside) → is_proved session ≡ asks_proof asked → IsFront bytes (opened asked old)
    → (ended ≡ true → IsAll bytes (opened asked old)) → length bytes ≤ asked.limit
    → ((up : UpToExit (is_proved session) (opened asked old) bytes ended before) × IsTracked session up.after.1)
    → EndsProof session before now → AnsweredToTheExit asked old now
exit_ended asked old bytes ended session before now kind front whole within exit ends =
    let both = subst (λ (b : Bool). (up : UpToExit b (opened asked old) bytes ended before)
    × (now ≡ moved_by (writing_all (end_writes b up.after.1)) before)) kind
    (exit.0, ends exit.0.after.1 exit.1) in
    record {
      bytes = bytes;
      ended = ended;
      front = front;
      whole = whole;
      within_limit = within;
      before = before;
      answered = both.0;
      ends = both.1;
    }

-- the run is done
pub end_done : (pause : Pause) (asked : Asked) (old : Outside) (bytes : List ℕ) (kept : feed.Unanswered)
    (session : SessionState) (before now : Outside) → (pause ≡ Ended Unfinished → ⊥) → kept.1 ≡ true
    → IsRead asked old bytes → is_proved session ≡ asks_proof asked
    → Pauses pause (opened asked old) bytes kept session before → EndsProof session before now
    → Run asked status.Done old now
unfolding all_answered
end_done Exited asked old bytes kept session before now ne ended read kind exit ends =
    inr (exit_ended asked old bytes kept.1 session before now kind
    (front_of_all bytes (opened asked old) read.all) (λ _. read.all)
    (let below = read.below_limit in omega arith) exit ends)
end_done Waiting asked old bytes kept session before now ne ended read kind waits ends =
    absurd (false≢true (sym waits.0 ∙ ended))
end_done (Ended Clean) asked old bytes kept session before now ne ended read kind end ends =
    let all = subst (λ (b : Bool). (all : AllAnswered b (opened asked old) bytes true end.2.sofar.left before)
    × (now ≡ moved_by (writing_all (end_writes b all.s.1)) before)) kind (
      all_answered (opened asked old) bytes kept session before true end.2 end.0,
      ends end.2.sofar.progress end.2.sofar.tracked,
    ) in
    inl (record {
      script = bytes;
      left = end.2.sofar.left;
      all = read.all;
      below_limit = read.below_limit;
      before = before;
      clean = same_end end.2.sofar.left kept.0 end.2.sofar.shorter ∙ end.1;
      answered = all.0;
      ends = all.1;
    })
end_done (Ended Unfinished) asked old bytes kept session before now ne ended read kind end ends = absurd (ne refl)

-- the script ended within a form, and that is answered, and the proof is ended
pub end_unfinished : (asked : Asked) (old : Outside) (bytes : List ℕ) (kept : feed.Unanswered) (session : SessionState)
    (before between now : Outside) → IsRead asked old bytes → is_proved session ≡ asks_proof asked
    → Pauses (Ended Unfinished) (opened asked old) bytes kept session before
    → between ≡ write_at out_port.Answers unfinished_line before → EndsProof session between now
    → AnsweredUnfinished asked old now
unfolding all_answered
end_unfinished asked old bytes kept session before between now read kind end e ends =
    let all = subst (λ (b : Bool). (all : AllAnswered b (opened asked old) bytes true end.2.sofar.left before)
    × (now ≡ moved_by (writing_all ((out_port.Answers, unfinished_line) ∷ end_writes b all.s.1)) before)) kind (
      all_answered (opened asked old) bytes kept session before true end.2 end.0,
      written_behind ((out_port.Answers, unfinished_line) ∷ [])
          (end_writes (is_proved session) end.2.sofar.progress) before between now
          (one_written out_port.Answers unfinished_line before between e)
          (ends end.2.sofar.progress end.2.sofar.tracked),
    ) in
    record {
      script = bytes;
      left = end.2.sofar.left;
      before = before;
      all = read.all;
      below_limit = read.below_limit;
      unfinished = same_end end.2.sofar.left kept.0 end.2.sofar.shorter ∙ end.1;
      answered = all.0;
      outside = all.1;
    }

-- the run is cut short once all is read
pub end_cut : (asked : Asked) (old : Outside) (bytes : List ℕ) (proved : Bool) (now : Outside) → IsRead asked old bytes
    → proved ≡ asks_proof asked → Cut proved (opened asked old) bytes true now → CutShort asked old now
end_cut asked old bytes proved now read kind cut = inr (inr (record {
  bytes = bytes;
  ended = true;
  front = front_of_all bytes (opened asked old) read.all;
  whole = λ _. read.all;
  cut = subst (λ (b : Bool). Cut b (opened asked old) bytes true now) kind cut;
}))

-- what comes at the end of the script is cut
cut_at_end : (ending : Ending) (o : Outside) (bytes : List ℕ) (kept : feed.Unanswered) (session : SessionState)
    (before now : Outside) → Pauses (Ended ending) o bytes kept session before
    → ((p : Progress) → IsTracked session p
    → CutOf (unfinished_writes (is_clean ending) ++ end_writes (is_proved session) p) before now)
    → Cut (is_proved session) o bytes true now
unfolding all_answered
cut_at_end ending o bytes kept session before now end cutting =
    let sofar = end.2.sofar in
    let all = all_answered o bytes kept session before true end.2 end.0 in
    let cut = cutting sofar.progress sofar.tracked in
    inr (record {
      entries = all.entries;
      left = sofar.left;
      writes = all.writes;
      s = all.s;
      answered = all.answered;
      own = unfinished_writes (is_open_gap sofar.left) ++ end_writes (is_proved session) sofar.progress;
      next = inr (refl, all.none, refl);
      front = cut.0;
      proper = subst (λ (b : Bool). IsProperFront cut.0 (unfinished_writes b
          ++ end_writes (is_proved session) sofar.progress))
          (sym (same_end sofar.left kept.0 sofar.shorter ∙ end.1)) cut.1;
      outside = writes_on o before now (length bytes) all.writes cut.0 all.outside cut.2;
    })

-- the first entries, and what is left behind them
pub begins_first : (ended : Bool) (bytes : List ℕ) (entries more : List Entry) (left : List ℕ)
    → Begins ended bytes (entries ++ more) left → (behind : List ℕ) × Begins ended bytes entries behind
begins_first ended bytes [] more left h = (bytes, refl)
begins_first ended bytes (entry ∷ entries) more left h =
    let rest = begins_first ended h.1 entries more left h.4 in (rest.0, (h.0, h.1, h.2, h.3, rest.1))

-- the end of the proof is cut, behind the answer to (exit)
pub exit_cut : (o : Outside) (bytes : List ℕ) (ended : Bool) (session : SessionState) (before now : Outside)
    → ((up : UpToExit (is_proved session) o bytes ended before) × IsTracked session up.after.1)
    → CutsEnd session before now → Cut (is_proved session) o bytes ended now
exit_cut o bytes ended session before now exit cutting =
    let up = exit.0 in
    let cut = cutting up.after.1 exit.1 in
    let first = begins_first ended bytes up.entries (up.exit ∷ []) up.left up.begins in
    inr (record {
      entries = up.entries;
      left = first.0;
      writes = up.writes;
      s = up.s;
      answered = record { begins = first.1; along = up.along };
      own = up.own ++ end_writes (is_proved session) up.after.1;
      next = inl (record {
        next = up.exit;
        behind = up.left;
        after = up.after;
        answer = up.own;
        begins = up.begins;
        answers = up.answers;
        all = ap (λ (b : Bool). up.own ++ (if b then end_writes (is_proved session) up.after.1 else []))
            (sym up.is_exit);
      });
      front = up.own ++ cut.0;
      proper = front-behind up.own cut.0 (end_writes (is_proved session) up.after.1) cut.1;
      outside = writes_on o before now (length bytes) (up.writes ++ up.own) cut.0 up.outside cut.2
          ∙ ap (λ (ws : List Write). moved_by (work (length bytes) ws) o) (append_assoc up.writes up.own cut.0);
    })

-- the end of the proof is cut, once all is read and answered
pub end_cut_done : (pause : Pause) (asked : Asked) (old : Outside) (bytes : List ℕ) (kept : feed.Unanswered)
    (session : SessionState) (before now : Outside) → (pause ≡ Ended Unfinished → ⊥) → kept.1 ≡ true
    → IsRead asked old bytes → is_proved session ≡ asks_proof asked
    → Pauses pause (opened asked old) bytes kept session before → CutsEnd session before now → CutShort asked old now
end_cut_done Exited asked old bytes kept session before now ne ended read kind exit cuts =
    end_cut asked old bytes (is_proved session) now read kind
    (subst (λ (b : Bool). Cut (is_proved session) (opened asked old) bytes b now) ended
    (exit_cut (opened asked old) bytes kept.1 session before now exit cuts))
end_cut_done Waiting asked old bytes kept session before now ne ended read kind waits cuts =
    absurd (false≢true (sym waits.0 ∙ ended))
end_cut_done (Ended Clean) asked old bytes kept session before now ne ended read kind end cuts =
    end_cut asked old bytes (is_proved session) now read kind
    (cut_at_end Clean (opened asked old) bytes kept session before now end cuts)
end_cut_done (Ended Unfinished) asked old bytes kept session before now ne ended read kind end cuts = absurd (ne refl)

-- the answer to the script's end is cut
pub end_unfinished_cut : (asked : Asked) (old : Outside) (bytes : List ℕ) (kept : feed.Unanswered)
    (session : SessionState) (before now : Outside) → IsRead asked old bytes → is_proved session ≡ asks_proof asked
    → Pauses (Ended Unfinished) (opened asked old) bytes kept session before
    → CutOf ((out_port.Answers, unfinished_line) ∷ []) before now → CutShort asked old now
end_unfinished_cut asked old bytes kept session before now read kind end cut =
    end_cut asked old bytes (is_proved session) now read kind
    (cut_at_end Unfinished (opened asked old) bytes kept session before now end
    (λ p tracked. (
      cut.0,
      front-longer cut.0 ((out_port.Answers, unfinished_line) ∷ []) (end_writes (is_proved session) p) cut.1,
      cut.2,
    )))

-- and the end of the proof behind it
pub end_unfinished_proof_cut : (asked : Asked) (old : Outside) (bytes : List ℕ) (kept : feed.Unanswered)
    (session : SessionState) (before between now : Outside) → IsRead asked old bytes
    → is_proved session ≡ asks_proof asked → Pauses (Ended Unfinished) (opened asked old) bytes kept session before
    → between ≡ write_at out_port.Answers unfinished_line before → CutsEnd session between now → CutShort asked old now
end_unfinished_proof_cut asked old bytes kept session before between now read kind end e cuts =
    end_cut asked old bytes (is_proved session) now read kind
    (cut_at_end Unfinished (opened asked old) bytes kept session before now end
    (λ p tracked.
    let cut = cuts p tracked in (
      (out_port.Answers, unfinished_line) ∷ cut.0,
      front-behind ((out_port.Answers, unfinished_line) ∷ []) cut.0 (end_writes (is_proved session) p) cut.1,
      written_behind ((out_port.Answers, unfinished_line) ∷ []) cut.0 before between now
          (one_written out_port.Answers unfinished_line before between e) cut.2,
    )))
