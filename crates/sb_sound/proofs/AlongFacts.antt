-- What the lines of entries come to, one entry behind the other.
use Rattle.std.proofs.Common.{◌≡◌, ℕ, Bool, true, false, if◌then◌else◌, List, [], ◌∷◌, ◌++◌, Option, None, refl, sym, subst, ap, ◌∙◌, append_assoc}
use Rattle.std.proofs.lemmas.Bool.{false≢true}
use Rattle.std.proofs.lemmas.List.{append-nil}
use Rattle.std.specs.List.{list_all}
use Rattle.std.specs.Fmt.{digits}
use Rattle.sb_reader.specs.Entries.{Entry}
use Rattle.sb_script.specs.State.{State, plain, satisfied, refuted, undecided}
use Rattle.sb_script.specs.State as state
use Rattle.sb_script.specs.Steps.{Step, answers, leaves, checks, exits, Leaving, above, all}
use Rattle.sb_script.specs.Replies.{step_of}
use Rattle.sb_script.specs.Scripts.{Along}
use Rattle.sb_script.specs.Verdicts.{Verdict, is_sat, is_unsat, is_unknown, is_outside, settled, IsReply}
use Rattle.sb_rulebook.specs.Brought.{newest_format}
use Rattle.sb_rulebook.specs.Lines.{header_line, end_line, Said}
use Rattle.sb_rulebook.specs.LineLaws.{has_text, TextIsOneLine, TextsAreLines}
use Rattle.sb_rulebook.specs.Reading.{LineText, texts_of}
use Rattle.sb_rulebook.specs.Kept.{AllKept}
use Rattle.sb_rulebook.specs.Judging.{Event, asks, ends, Phase, at_rest, at_check, at_end, behind_end, stopped, Progress, beginning, met, meets, is_at_check, accepted, outcome_of, closed}
use Rattle.sb_rulebook.specs.JudgingTexts.{takes_all, through, along, judged}
use Rattle.sb_rulebook.specs.JudgingLaws.{CheckGoesThroughInOrder, EventsAreMetInOrder}
use Rattle.sb_rulebook.specs.Printed.{IsPrintedProof}
use Rattle.sb_rulebook.specs.PrintedLaws.{CheckTakesPrintedLines, PrintedProofGoesAlong}
use Rattle.sb_rulebook.specs.Accepted.{question_in, event_of_leaving, events_of, events}
use Rattle.sb_sound.specs.Certified.{Proves, FindsProved, behind, KeepsStep, CertifiesOn, last_lines_in, last_lines}
use Rattle.sb_sound.specs.CertifiedLaws.{CertifiedUpTo, CertifiedIsAccepted, CertifiedToExitIsAccepted, CertifiedFollows, CertifiedGoesOn}
use Rattle.sb_sound.proofs.WholeLines.{AnyPrinted, printed_none, printed_both, whole_of, texts_apart}
use Rattle.sb_sound.proofs.EventFacts.{events_from, same_events, is_exits, entry_exits}

-- Entries are in front of all others: their events in front of those of the others, and their lines in front of theirs.
record Leads (before : List Entry → List Event) (p : Progress) (front : List Event) (lines : List ℕ) (next : State)
    (q : Progress) : Type 0
  where
    in_front : (others : List Entry) → before others ≡ front ++ events next others
    taken : (more : List ℕ) → along p front (texts_of (lines ++ more)) ≡ (q, texts_of more)
    rests : q.phase ≡ at_rest
    printed : AnyPrinted lines

meets_at_rest : (e : Event) (p : Progress) → p.phase ≡ at_rest → meets e p ≡ met e p
meets_at_rest e p h = ap (λ (phase : Phase). elim phase as (λ _. Progress) [
  | at_rest ↦ met e p
  | at_check q ↦ p
  | at_end ↦ p
  | behind_end ↦ p
  | stopped n refusal ↦ p
]) h

leaving_rests : (what : Leaving) (p : Progress) → p.phase ≡ at_rest
    → (meets (event_of_leaving what) p).phase ≡ at_rest
leaving_rests (above level) p h =
    ap (λ (r : Progress). r.phase) (meets_at_rest (event_of_leaving (above level)) p h) ∙ h
leaving_rests all p h = ap (λ (r : Progress). r.phase) (meets_at_rest (event_of_leaving all) p h) ∙ h

settled_same : (v : Verdict) (s : State) (entries : List Entry) → events (settled v s) entries ≡ events s entries
settled_same (is_sat v) s entries = same_events entries s (satisfied v)
settled_same (is_unsat given) s entries = same_events entries s (refuted given)
settled_same is_unknown s entries = same_events entries s undecided
settled_same is_outside s entries = same_events entries s plain

-- the last lines, where the first line has come and where it has not
last_taken : (begun : Bool) (said : List Said) (kept : AllKept) (next : ℕ)
    → let p : Progress = record { phase = at_end; begun = begun; said = said; kept = kept; next = next } in
    outcome_of (closed (takes_all (texts_of (last_lines p)) p)) ≡ accepted said
unfolding digits
last_taken true said kept next = refl
last_taken false said kept next = refl

-- the last lines are printed
last_printed : (p : Progress) → AnyPrinted (last_lines p)
last_printed p = (last_lines_in p, (step p.begun, refl))
  where
    step : (b : Bool) → list_all has_text (if b then end_line ∷ [] else header_line newest_format ∷ end_line ∷ [])
        ≡ true
    step true = refl
    step false = refl

module _ (are_lines : TextsAreLines) (one_line : TextIsOneLine) (takes_printed : CheckTakesPrintedLines)
    (checks_in_order : CheckGoesThroughInOrder) (events_in_order : EventsAreMetInOrder)
  where
    -- where no check waits no line is taken
    idle : (p : Progress) (texts : List LineText) → is_at_check p.phase ≡ false → through p texts ≡ (p, texts)
    idle p texts h =
        checks_in_order p [] texts
        ∙ ap (λ (b : Bool). if b then through p texts else (p, texts)) h

    -- a check takes its lines, and leaves those behind them
    check_takes : (p q : Progress) (lines more : List ℕ) → AnyPrinted lines → through p (texts_of lines) ≡ (q, [])
        → q.phase ≡ at_rest → through p (texts_of (lines ++ more)) ≡ (q, texts_of more)
    check_takes p q lines more printed follow rests =
        let behind_it = texts_of more in
        ap (through p) (texts_apart are_lines lines more (whole_of one_line lines printed))
        ∙ checks_in_order p (texts_of lines) behind_it
        ∙ ap (λ (r : Progress × List LineText). if is_at_check r.0.phase then through r.0 behind_it
        else (r.0, r.1 ++ behind_it)) follow
        ∙ ap (λ (phase : Phase). if is_at_check phase then through q behind_it else (q, behind_it)) rests

    -- A step.

    step_leads : (s : State) (p : Progress) (x : Step) (lines reply : List ℕ) (found : Option Verdict) (t : State)
        (q : Progress) → p.phase ≡ at_rest → is_exits x ≡ false
        → IsReply (FindsProved p q) x s lines found reply t → (found ≡ None → q ≡ behind (events_of x s) p)
        → Leads (events_from x s) p (events_of x s) lines t q
    step_leads s p (answers bytes new) lines reply found t q rest goes h keeps = record {
      in_front = λ others. ap (λ (u : State). events u others) (sym h.3);
      taken = λ more. ap (λ (own : List ℕ). (p, texts_of (own ++ more))) h.0
          ∙ ap (λ (r : Progress). (r, texts_of more)) (sym (keeps h.1));
      rests = ap (λ (r : Progress). r.phase) (keeps h.1) ∙ rest;
      printed = subst AnyPrinted (sym h.0) printed_none;
    }
    step_leads s p (leaves what bytes new) lines reply found t q rest goes h keeps =
        let left = meets (event_of_leaving what) p in
        record {
          in_front = λ others. ap (λ (u : State). event_of_leaving what ∷ events u others) (sym h.3);
          taken = λ more. ap (λ (own : List ℕ). through left (texts_of (own ++ more))) h.0
              ∙ idle left (texts_of more) (ap is_at_check (leaving_rests what p rest))
              ∙ ap (λ (r : Progress). (r, texts_of more)) (sym (keeps h.1));
          rests = ap (λ (r : Progress). r.phase) (keeps h.1) ∙ leaving_rests what p rest;
          printed = subst AnyPrinted (sym h.0) printed_none;
        }
    step_leads s p (checks given) lines reply found t q rest goes h keeps =
        let proves : Proves p q (question_in s given) lines h.0 = h.1.1 in
        let own : AnyPrinted lines = (proves.printed, proves.are_printed) in
        let asking = meets (asks (question_in s given)) p in
        record {
          in_front = λ others. ap (λ es. asks (question_in s given) ∷ es)
              (sym (settled_same h.0 s others) ∙ ap (λ (u : State). events u others) (sym h.4));
          taken = λ more. check_takes asking q lines more own
              (takes_printed asking q proves.printed lines proves.are_printed proves.lines_follow) proves.answered;
          rests = proves.answered;
          printed = own;
        }
    step_leads s p (exits bytes) lines reply found t q rest goes h keeps = absurd (false≢true (sym goes))

    keeps_if_none : (s : State) (entry : Entry) (found : Option Verdict) (p q : Progress)
        → KeepsStep s entry found p q → found ≡ None → q ≡ behind (events_of (step_of entry s) s) p
    keeps_if_none s entry found p q h none = subst (λ (o : Option Verdict). KeepsStep s entry o p q) none h

    entry_leads : (before : State × Progress) (entry : Entry) (lines : List ℕ) (after : State × Progress)
        → before.1.phase ≡ at_rest → CertifiesOn before entry lines after
        → Leads (events_from (step_of entry before.0) before.0) before.1 (events_of (step_of entry before.0) before.0)
        lines after.0 after.1
    entry_leads before entry lines after rest h =
        step_leads before.0 before.1 (step_of entry before.0) lines h.1.0 h.1.1 after.0 after.1 rest
        (entry_exits entry before.0 ∙ h.0) h.1.2.replies
        (keeps_if_none before.0 entry h.1.1 before.1 after.1 h.1.2.keeps)

    -- All entries.

    leads_none : (s : State) (p : Progress) → p.phase ≡ at_rest → Leads (events s) p [] [] s p
    leads_none s p rest = record {
      in_front = λ others. refl;
      taken = λ more. refl;
      rests = rest;
      printed = printed_none;
    }

    leads_both : (first : List Entry → List Event) (p q r : Progress) (es fs : List Event) (xs ys : List ℕ)
        (t u : State) (entries : List Entry)
        → Leads first p es xs t q → Leads (λ others. events t (entries ++ others)) q fs ys u r
        → Leads (λ others. first (entries ++ others)) p (es ++ fs) (xs ++ ys) u r
    leads_both first p q r es fs xs ys t u entries h k = record {
      in_front = λ others. h.in_front (entries ++ others) ∙ ap (λ gs. es ++ gs) (k.in_front others)
          ∙ sym (append_assoc es fs (events u others));
      taken = λ more. events_in_order p es fs (texts_of ((xs ++ ys) ++ more))
          ∙ ap (λ (bytes : List ℕ). let l = along p es (texts_of bytes) in along l.0 fs l.1) (append_assoc xs ys more)
          ∙ ap (λ (l : Progress × List LineText). along l.0 fs l.1) (h.taken (ys ++ more))
          ∙ k.taken more;
      rests = k.rests;
      printed = printed_both xs ys h.printed k.printed;
    }

    -- entries in front of all others, with some events
    abbrev SomeLead : State × Progress → List Entry → List ℕ → State × Progress → Type 0
    SomeLead before entries lines after = (front : List Event)
        × Leads (λ others. events before.0 (entries ++ others)) before.1 front lines after.0 after.1

    entries_lead : (before : State × Progress) (entries : List Entry) (lines : List ℕ) (after : State × Progress)
        → before.1.phase ≡ at_rest → Along CertifiesOn before entries lines after
        → SomeLead before entries lines after
    entries_lead before [] lines after rest h =
        subst (λ (bytes : List ℕ). SomeLead before [] bytes after) (sym h.0)
        (subst (λ (end : State × Progress). SomeLead before [] [] end) (sym h.1)
        ([], leads_none before.0 before.1 rest))
    entries_lead before (entry ∷ entries) lines after rest h =
        let x = step_of entry before.0 in
        let own = entry_leads before entry h.0 h.2 rest h.3 in
        let others = entries_lead h.2 entries h.1 after own.rests h.5 in
        subst (λ (bytes : List ℕ). SomeLead before (entry ∷ entries) bytes after) (sym h.4) (
          events_of x before.0 ++ others.0,
          leads_both (events_from x before.0) before.1 h.2.1 after.1 (events_of x before.0) others.0 h.0 h.1 h.2.0
              after.0 entries own others.1,
        )

    -- From the beginning on.

    leads_from_start : (entries : List Entry) (bytes : List ℕ) (after : State × Progress)
        → CertifiedUpTo entries bytes after
        → Leads (λ others. events state.start (entries ++ others)) beginning (events state.start entries) bytes after.0
        after.1
    leads_from_start entries bytes after h =
        let found = entries_lead (state.start, beginning) entries bytes after refl h in
        let front : found.0 ≡ events state.start entries =
        sym (append-nil found.0) ∙ sym (found.1.in_front [])
        ∙ ap (events state.start) (append-nil entries) in
        subst (λ (es : List Event). Leads (λ others. events state.start (entries ++ others)) beginning es bytes after.0
        after.1) front found.1

    pub follows_so_far : CertifiedFollows
    follows_so_far entries bytes s p h =
        let leads = leads_from_start entries bytes (s, p) h in (
          whole_of one_line bytes leads.printed,
          (
            ap (λ (b : List ℕ). along beginning (events state.start entries) (texts_of b)) (sym (append-nil bytes))
                ∙ leads.taken [],
            leads.rests,
          ),
        )

    pub goes_on_behind : CertifiedGoesOn
    goes_on_behind entries others bytes more s p h =
        let leads = leads_from_start entries bytes (s, p) h in
        let es = events state.start entries in (
          leads.in_front others,
          ap (λ gs. along beginning gs (texts_of (bytes ++ more))) (leads.in_front others)
              ∙ events_in_order beginning es (events s others) (texts_of (bytes ++ more))
              ∙ ap (λ (l : Progress × List LineText). along l.0 (events s others) l.1) (leads.taken more),
        )

    -- the last lines are taken behind the last check
    ends_accepted : (es : List Event) (bytes : List ℕ) (p : Progress)
        → ((more : List ℕ) → along beginning es (texts_of (bytes ++ more)) ≡ (p, texts_of more)) → p.phase ≡ at_rest
        → judged es (bytes ++ last_lines p) ≡ accepted p.said
    ends_accepted es bytes p taken rest =
        let last = texts_of (last_lines p) in
        let closing : Progress = record p { phase = at_end } in
        ap (λ (l : Progress × List LineText). outcome_of (closed (takes_all l.1 l.0)))
        (events_in_order beginning es (ends ∷ []) (texts_of (bytes ++ last_lines p))
        ∙ ap (λ (l : Progress × List LineText). along l.0 (ends ∷ []) l.1) (taken (last_lines p))
        ∙ ap (λ (r : Progress). through r last) (meets_at_rest ends p rest)
        ∙ idle closing last refl)
        ∙ last_taken p.begun p.said p.kept p.next

    -- so they are an accepted proof, line by line
    lines_accepted : PrintedProofGoesAlong → (entries : List Entry) (es : List Event) (bytes : List ℕ) (p : Progress)
        → events state.start entries ≡ es
        → ((more : List ℕ) → along beginning es (texts_of (bytes ++ more)) ≡ (p, texts_of more)) → p.phase ≡ at_rest
        → AnyPrinted bytes → IsPrintedProof entries (bytes ++ last_lines p)
    lines_accepted goes entries es bytes p same taken rest printed =
        let all = printed_both bytes (last_lines p) printed (last_printed p) in (
          all.0,
          all.1,
          (
            p.said,
            ap (λ (q : Progress). outcome_of (closed q))
                (sym (goes beginning (events state.start entries) all.0 (bytes ++ last_lines p) all.1))
                ∙ ap (λ gs. judged gs (bytes ++ last_lines p)) same ∙ ends_accepted es bytes p taken rest,
          ),
        )

    pub all_accepted : PrintedProofGoesAlong → CertifiedIsAccepted
    all_accepted goes entries bytes s p h =
        let leads = leads_from_start entries bytes (s, p) h in
        lines_accepted goes entries (events state.start entries) bytes p refl leads.taken leads.rests leads.printed

    -- the entry that ends the run
    exit_ends : (s : State) (p : Progress) (x : Step) (lines reply : List ℕ) (found : Option Verdict)
        (after : State × Progress) → is_exits x ≡ true
        → IsReply (FindsProved p after.1) x s lines found reply after.0
        → (found ≡ None → after.1 ≡ behind (events_of x s) p)
        → (lines ≡ []) × ((after ≡ (s, p)) × ((others : List Entry) → events_from x s others ≡ []))
    exit_ends s p (answers bytes new) lines reply found after goes h keeps = absurd (false≢true goes)
    exit_ends s p (leaves what bytes new) lines reply found after goes h keeps = absurd (false≢true goes)
    exit_ends s p (checks given) lines reply found after goes h keeps = absurd (false≢true goes)
    exit_ends s p (exits bytes) lines reply found after goes h keeps = (
      h.0,
      (
        ap (λ (u : State). (u, after.1)) h.3 ∙ ap (λ (r : Progress). (s, r)) (keeps h.1),
        λ others. refl,
      ),
    )

    pub to_exit_accepted : PrintedProofGoesAlong → CertifiedToExitIsAccepted
    to_exit_accepted goes entries others exit bytes lines reply found s p after h exits_run answered =
        let leads = leads_from_start entries bytes (s, p) h in
        let ended = exit_ends s p (step_of exit s) lines reply found after (entry_exits exit s ∙ exits_run)
        answered.replies (keeps_if_none s exit found p after.1 answered.keeps) in
        let es = events state.start entries in
        let whole : events state.start (entries ++ exit ∷ others) ≡ es =
        leads.in_front (exit ∷ others) ∙ ap (λ gs. es ++ gs) (ended.1.1 others) ∙ append-nil es in (
          ended.0,
          (
            ended.1.0,
            lines_accepted goes (entries ++ exit ∷ others) es bytes p whole leads.taken leads.rests leads.printed,
          ),
        )
