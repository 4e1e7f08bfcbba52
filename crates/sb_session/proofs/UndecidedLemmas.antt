-- A check that is left undecided has as many bytes of proof as it may have steps: each step is a line.
use Rattle.std.proofs.Common.{◌≡◌, ℕ, ◌+◌, ◌≤◌, ◌==◌, ◌&&◌, nat_le, Bool, true, false, if◌then◌else◌, List, [], ◌∷◌, ◌++◌, length, length-append, map, Option, Some, None, Result, Ok, Err, refl, sym, ap, ◌∙◌, subst, arith}
use Rattle.std.proofs.lemmas.Bool.{and_parts, eqb-true}
use Rattle.std.proofs.lemmas.List.{same_from_push}
use Rattle.sb_reader.specs.Entries.{Entry}
use Rattle.sb_script.specs.State.{State, Assumption}
use Rattle.sb_script.specs.Steps.{Step, answers, leaves, checks, exits, Leaving, above, all, line}
use Rattle.sb_script.specs.Replies.{step_of}
use Rattle.sb_script.specs.Verdicts.{Verdict, is_unknown, IsReply}
use Rattle.sb_rulebook.specs.Refusals.{Refusal, misplaced, unknown_id}
use Rattle.sb_rulebook.specs.Brought.{is_brought, newest_format}
use Rattle.sb_rulebook.specs.Lines.{Line, header_line, verdict_line, Said, said_sat, said_unsat, said_unknown, said_unsupported, text_of}
use Rattle.sb_rulebook.specs.LineLaws.{bytes_of}
use Rattle.sb_rulebook.specs.Kept.{AllKept, Asked, most_counted, nothing_kept}
use Rattle.sb_rulebook.specs.Follows.{by_rule, follows, not_brought}
use Rattle.sb_rulebook.specs.Verdicts.{Question, refusal_of, unless_wrong}
use Rattle.sb_rulebook.specs.Judging.{Event, asks, Phase, at_rest, at_check, at_end, behind_end, stopped, Progress, met, meets, stop, takes_first, takes_verdict, takes_kept, takes_at_check, takes_in, take_line, is_at_check, goes_through}
use Rattle.sb_rulebook.specs.Accepted.{asked_in, question_in, event_of_leaving, events_of}
use Rattle.sb_sound.specs.CountLaws.{is_counted_line, LinesAreCounted}
use Rattle.sb_sound.specs.Certified.{SaysVerdict, FindsProved, behind, KeepsStep, Certifies}

-- No check waits, and no more lines were counted than so many.
pub record IsWithin (n : ℕ) (p : Progress) : Type 0 where
  pub rests : p.phase ≡ at_rest
  pub counted : p.kept.counted ≤ n

pub wider : (n m : ℕ) (p : Progress) → n ≤ m → IsWithin n p → IsWithin m p
wider n m p less within = record { rests = within.rests; counted = omega (arith, less, within.counted) }

-- A line that a check takes: the check waits on, or the proof is refused, or the check is answered.
data Takes (q : Question) (p r : Progress) : Type 0 where
  waits : r.phase ≡ at_check q → r.said ≡ p.said → r.kept.counted ≤ p.kept.counted + 1 → Takes q p r
  stops : (n : ℕ) (refusal : Refusal) → r.phase ≡ stopped n refusal → Takes q p r
  ends : (said : Said) → r.phase ≡ at_rest → r.said ≡ p.said ++ said ∷ [] → r.kept.counted ≡ 0
      → refusal_of q p.kept said ≡ None → Takes q p r

never_brought : (r : Result AllKept Refusal) (after : AllKept) → not_brought r ≡ Ok after → ⊥
never_brought (Ok kept) after h = Prim.cc (h)
never_brought (Err unknown_id) after h = Prim.cc (h)
never_brought (Err _) after h = Prim.cc (h)

module _ (counts : LinesAreCounted) where
  counted_once : (asked : Asked) (kept after : AllKept) (l : Line) → follows asked kept l ≡ Ok after
      → after.counted ≤ kept.counted + 1
  counted_once asked kept after l h = step (is_brought l) h
    where
      one : (b : Bool) → after.counted ≡ (if b then kept.counted + 1 else kept.counted)
          → after.counted ≤ kept.counted + 1
      one true e = omega (arith, e)
      one false e = omega (arith, e)

      step : (b : Bool) → (if b then by_rule asked kept l else not_brought (by_rule asked kept l)) ≡ Ok after
          → after.counted ≤ kept.counted + 1
      step true h = one (is_counted_line l) (counts asked kept after l h)
      step false h = absurd (never_brought (by_rule asked kept l) after h)

  takes-kept : (q : Question) (p : Progress) (l : Line) → p.phase ≡ at_check q
      → Takes q p (takes_kept (follows q.asked p.kept l) p)
  takes-kept q p l at = step (follows q.asked p.kept l) refl
    where
      step : (r : Result AllKept Refusal) → follows q.asked p.kept l ≡ r → Takes q p (takes_kept r p)
      step (Ok after) is = waits at refl (counted_once q.asked p.kept after l is)
      step (Err refusal) is = stops p.next refusal refl

  takes-verdict : (q : Question) (p : Progress) (said : Said)
      → Takes q p (takes_verdict said (refusal_of q p.kept said) p)
  takes-verdict q p said = step (refusal_of q p.kept said) refl
    where
      step : (o : Option Refusal) → refusal_of q p.kept said ≡ o → Takes q p (takes_verdict said o p)
      step None is = ends said refl refl refl is
      step (Some refusal) is = stops p.next refusal refl

  takes-at-check : (q : Question) (p : Progress) (l : Line) → p.phase ≡ at_check q → Takes q p (takes_at_check q l p)
  takes-at-check q p (verdict_line said) at = takes-verdict q p said
  takes-at-check q p l at = takes-kept q p l at

  takes-first : (q : Question) (p : Progress) (l : Line) → p.phase ≡ at_check q → Takes q p (takes_first l p)
  takes-first q p (header_line format) at = step (nat_le 1 format && nat_le format newest_format)
    where
      step : (b : Bool) → Takes q p (if b
          then record p { begun = true; kept = nothing_kept format; next = p.next + 1 } else stop misplaced p)
      step true = waits at refl (omega arith)
      step false = stops p.next misplaced refl
  takes-first q p l at = stops p.next misplaced refl

  takes-line : (q : Question) (p : Progress) (l : Line) → p.phase ≡ at_check q → Takes q p (take_line l p)
  takes-line q p l at = subst (λ (phase : Phase). Takes q p (takes_in phase l p)) (sym at) (step p.begun)
    where
      step : (b : Bool) → Takes q p (if b then takes_at_check q l p else takes_first l p)
      step true = takes-at-check q p l at
      step false = takes-first q p l at

  -- What a check comes to that is answered.

  -- the verdict is said, and where it leaves the check undecided there were so many lines as steps are allowed
  record Ended (q : Question) (p : Progress) (printed : List Line) (after : Progress) : Type 0 where
    said : Said
    said_last : after.said ≡ p.said ++ said ∷ []
    again : after.kept.counted ≡ 0
    spent : (n : ℕ) → said ≡ said_unknown n → most_counted q.asked ≤ p.kept.counted + length printed

  idle : (p : Progress) (ls : List Line) → is_at_check p.phase ≡ false → goes_through take_line p ls ≡ (p, ls)
  idle p [] h = refl
  idle p (l ∷ ls) h = ap (λ b. if b then goes_through take_line (take_line l p) ls else (p, l ∷ ls)) h

  -- an undecided check that may be so has counted as many lines
  spent_all : (q : Question) (kept : AllKept) (n : ℕ) → refusal_of q kept (said_unknown n) ≡ None
      → most_counted q.asked ≡ kept.counted
  spent_all q kept n h =
      let right = step (q.inside && ((n == most_counted q.asked) && (kept.counted == n))) h in
      let numbers = and_parts q.inside ((n == most_counted q.asked) && (kept.counted == n)) right in
      let each = and_parts (n == most_counted q.asked) (kept.counted == n) numbers.1 in
      sym (eqb-true n (most_counted q.asked) each.0) ∙ sym (eqb-true kept.counted n each.1)
    where
      step : (b : Bool) → unless_wrong b ≡ None → b ≡ true
      step true h = refl
      step false h = absurd (Prim.cc (h))

  other_phase : (p : Progress) (q : Question) → p.phase ≡ at_check q → p.phase ≡ at_rest → ⊥
  other_phase p q at rests = no (sym at ∙ rests)
    where
      no : ◌≡◌ {A = Phase} (at_check q) at_rest → ⊥
      no h = Prim.cc (h)

  check_ends : (q : Question) (p after : Progress) (printed : List Line) → p.phase ≡ at_check q
      → goes_through take_line p printed ≡ (after, []) → after.phase ≡ at_rest → Ended q p printed after
  check_ends q p after [] at goes rests =
      absurd (other_phase p q at (ap (λ (r : Progress × List Line). r.0.phase) goes ∙ rests))
  check_ends q p after (l ∷ ls) at goes rests =
      step (λ still. check_ends q next after ls still on rests) (takes-line q p l at)
    where
      next : Progress
      next = take_line l p

      on : goes_through take_line next ls ≡ (after, [])
      on = sym (ap (λ (phase : Phase). if is_at_check phase then goes_through take_line (take_line l p) ls
          else (p, l ∷ ls)) at) ∙ goes

      stays : is_at_check next.phase ≡ false → (next ≡ after) × (ls ≡ [])
      stays other =
          let same = sym (idle next ls other) ∙ on in
          (ap (λ (r : Progress × List Line). r.0) same, ap (λ (r : Progress × List Line). r.1) same)

      not_stopped : (n : ℕ) (refusal : Refusal) → ◌≡◌ {A = Phase} (stopped n refusal) at_rest → ⊥
      not_stopped n refusal h = Prim.cc (h)

      step : (next.phase ≡ at_check q → Ended q next ls after) → Takes q p next → Ended q p (l ∷ ls) after
      step further (waits still same few) =
          let rest = further still in
          record {
            said = rest.said;
            said_last = rest.said_last ∙ ap (λ (said : List Said). said ++ rest.said ∷ []) same;
            again = rest.again;
            spent = λ n is. let most = rest.spent n is in omega (arith, most, few);
          }
      step further (stops n refusal is) =
          let end = stays (ap is_at_check is) in
          absurd (not_stopped n refusal (sym is ∙ ap (λ (r : Progress). r.phase) end.0 ∙ rests))
      step further (ends said is last none right) =
          let end = stays (ap is_at_check is) in
          record {
            said = said;
            said_last = ap (λ (r : Progress). r.said) (sym end.0) ∙ last;
            again = ap (λ (r : Progress). r.kept.counted) (sym end.0) ∙ none;
            spent = λ n same.
                let all = spent_all q p.kept n (subst (λ (s : Said). refusal_of q p.kept s ≡ None) same right) in
                omega (arith, all);
          }

  -- a line has a byte at least
  no_shorter : (printed : List Line) → length printed ≤ length (bytes_of (map text_of printed))
  no_shorter [] = omega arith
  no_shorter (l ∷ ls) =
      let first = length-append (text_of l) (10 ∷ []) in
      let both = length-append (line (text_of l)) (bytes_of (map text_of ls)) in
      let rest = no_shorter ls in
      omega (arith, first, both, rest)

  -- it says that the check is undecided
  says_unknown : (q : Question) (kept : AllKept) (said : Said) → SaysVerdict q kept said is_unknown
      → (n : ℕ) × (said ≡ said_unknown n)
  says_unknown q kept (said_sat values) h = absurd (Prim.cc (h.2))
  says_unknown q kept (said_unsat id places) h = absurd (Prim.cc (h.2))
  says_unknown q kept (said_unknown n) h = (n, refl)
  says_unknown q kept said_unsupported h = absurd (Prim.cc (h))

  meets_at_rest : (e : Event) (p : Progress) → p.phase ≡ at_rest → meets e p ≡ met e p
  meets_at_rest e p h = ap (λ (phase : Phase). elim phase as (λ _. Progress) [
    | at_rest ↦ met e p
    | at_check q ↦ p
    | at_end ↦ p
    | behind_end ↦ p
    | stopped n refusal ↦ p
  ]) h

  -- What a stage comes to by the lines of an entry.

  pub record Leads (n : ℕ) (s : State) (lines : List ℕ) (found : Option Verdict) (after : Progress) : Type 0 where
    pub within : IsWithin (n + length lines) after
    pub spent : found ≡ Some is_unknown → most_counted (asked_in s) ≤ n + length lines

  found_leads : (n : ℕ) (before after : Progress) (s : State) (given : List Assumption) (lines : List ℕ) (v : Verdict)
      → IsWithin n before → FindsProved before after s given lines v → Leads n s lines (Some v) after
  found_leads n before after s given lines v within finds =
      let q = question_in s given in
      let p = finds.1 in
      let asking = meets_at_rest (asks q) before within.rests in
      let ended = check_ends q (meets (asks q) before) after p.printed (ap (λ (r : Progress). r.phase) asking)
      p.lines_follow p.answered in
      let long = no_shorter p.printed in
      let bytes = ap length p.are_printed.1 in
      let few = within.counted in
      let same_count = ap (λ (r : Progress). r.kept.counted) asking in
      let again = ended.again in
      let said : ended.said ≡ p.said =
      (same_from_push before.said before.said ended.said p.said
      (ap (λ (r : Progress). r.said ++ ended.said ∷ []) (sym asking) ∙ sym ended.said_last ∙ p.said_last)).1 in
      record {
        within = record { rests = p.answered; counted = omega (arith, again) };
        spent = λ unknown.
            let so : v ≡ is_unknown = Prim.cc (unknown) in
            let says = says_unknown q after.kept p.said
            (subst (λ (w : Verdict). SaysVerdict q after.kept p.said w) so p.says) in
            let most = ended.spent says.0 (said ∙ says.1) in
            omega (arith, most, long, bytes, few, same_count);
      }

  -- nothing is counted where levels are left
  leaving_within : (n : ℕ) (what : Leaving) (p : Progress) → IsWithin n p
      → IsWithin n (meets (event_of_leaving what) p)
  leaving_within n (above level) p within =
      subst (IsWithin n) (sym (meets_at_rest (event_of_leaving (above level)) p within.rests))
      (record { rests = within.rests; counted = within.counted })
  leaving_within n all p within =
      subst (IsWithin n) (sym (meets_at_rest (event_of_leaving all) p within.rests))
      (record { rests = within.rests; counted = within.counted })

  step_leads : (n : ℕ) (s : State) (p : Progress) (x : Step) (lines reply : List ℕ) (found : Option Verdict)
      (t : State) (after : Progress) → IsWithin n p → IsReply (FindsProved p after) x s lines found reply t
      → (found ≡ None → after ≡ behind (events_of x s) p) → Leads n s lines found after
  step_leads n s p (answers bytes new) lines reply found t after within h keeps = record {
    within = subst (IsWithin (n + length lines)) (sym (keeps h.1)) (wider n (n + length lines) p (omega arith) within);
    spent = λ unknown. absurd (Prim.cc (sym h.1 ∙ unknown));
  }
  step_leads n s p (leaves what bytes new) lines reply found t after within h keeps = record {
    within = subst (IsWithin (n + length lines)) (sym (keeps h.1))
        (wider n (n + length lines) (meets (event_of_leaving what) p) (omega arith) (leaving_within n what p within));
    spent = λ unknown. absurd (Prim.cc (sym h.1 ∙ unknown));
  }
  step_leads n s p (checks given) lines reply found t after within h keeps =
      subst (λ (o : Option Verdict). Leads n s lines o after) (sym h.2)
      (found_leads n p after s given lines h.0 within h.1)
  step_leads n s p (exits bytes) lines reply found t after within h keeps = record {
    within = subst (IsWithin (n + length lines)) (sym (keeps h.1)) (wider n (n + length lines) p (omega arith) within);
    spent = λ unknown. absurd (Prim.cc (sym h.1 ∙ unknown));
  }

  -- An entry that is answered with its proof.
  pub certified_leads : (n : ℕ) (before : State × Progress) (entry : Entry) (lines reply : List ℕ)
      (found : Option Verdict) (after : State × Progress) → IsWithin n before.1
      → Certifies before entry lines reply found after → Leads n before.0 lines found after.1
  certified_leads n before entry lines reply found after within h =
      step_leads n before.0 before.1 (step_of entry before.0) lines reply found after.0 after.1 within h.replies
      (λ none. subst (λ (o : Option Verdict). KeepsStep before.0 entry o before.1 after.1) none h.keeps)
