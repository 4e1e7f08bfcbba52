-- A line that is taken, as a step of the proof.
use Rattle.std.proofs.Common.{◌≡◌, ℕ, ◌+◌, Bool, true, false, if◌then◌else◌, List, Option, Some, None, option_map, Result, Ok, Err, IfErr, refl, ap, sym, subst, ◌∙◌}
use Rattle.sb_proof.specs.Lines.{line_in}
use Rattle.sb_proof.specs.declared.line.Line.TheVariants as code
use Rattle.sb_proof.specs.declared.line.Line as declared
use Rattle.sb_proof.specs.declared.line.Said.{Said}
use Rattle.sb_stack.specs.Stacked.{Stacked, state_of, question_of}
use Rattle.sb_rulebook.specs.Kept.{AllKept, Asked}
use Rattle.sb_rulebook.specs.Lines.{Line}
use Rattle.sb_rulebook.specs.Refusals as rules
use Rattle.sb_rulebook.specs.Follows.{follows}
use Rattle.sb_rulebook.specs.Lines as lines
use Rattle.sb_rulebook.specs.Verdicts.{Question, refusal_of}
use Rattle.sb_rulebook.specs.Judging.{Phase, at_rest, at_check, at_end, Progress, stop, takes_kept, takes_verdict, takes_first, takes_last, takes_at_check, takes_in}
use Rattle.sb_rulebook.specs.Accepted.{asked_in}
use Rattle.sb_rules.specs.declared.kept.Kept.{Kept}
use Rattle.sb_rules.specs.Kept.{kept_in}
use Rattle.sb_check.specs.declared.judge.Judge.{Judge}
use Rattle.sb_check.specs.declared.reason.Reason.{Reason}
use Rattle.sb_check.specs.declared.reason.JudgeFault.{JudgeFault}
use Rattle.sb_check.specs.declared.reason.JudgeFault.TheVariants.{Refused}
use Rattle.sb_check.specs.Reasons.{reason_in}
use Rattle.sb_check.specs.Standing.{IsAt, IsSame, IsRefusal, Took, waiting_in}

-- a line that adds to what is kept
pub kept_taken : (phase : Phase) (j : Judge) (kept : Kept) (asked : Asked) (line : Line) (p : Progress)
    → IsAt phase j p → ((others : AllKept)
    → (rests : List (List ℕ)) × (follows asked (kept_in j.kept others) line
    ≡ Ok (kept_in kept (record others { rests = rests }))))
    → IsAt phase (record j { kept = kept; next = j.next + 1 }) (takes_kept (follows asked p.kept line) p)
kept_taken phase j kept asked line p a m =
    let b = m a.others in
    rw (ap (λ k. follows asked k line) a.kept ∙ b.1) (record {
      is = a.is;
      begun = a.begun;
      next = ap (λ n. n + 1) a.next;
      others = record a.others { rests = b.0 };
      format = a.format;
      kept = refl;
    })

pub kept_refused : (phase : Phase) (j : Judge) (asked : Asked) (line : Line) (p : Progress) (refusal : rules.Refusal)
    (reason : Reason) → IsAt phase j p
    → ((others : AllKept) → follows asked (kept_in j.kept others) line ≡ Err refusal)
    → reason_in reason ≡ refusal
    → IsRefusal (Refused j.next reason) p (takes_kept (follows asked p.kept line) p)
kept_refused phase j asked line p refusal reason a m r = (
  sym a.next,
  ap (λ o. takes_kept o p) (ap (λ k. follows asked k line) a.kept ∙ m a.others)
      ∙ ap (λ x. stop x p) (sym r),
)

-- a verdict that follows
pub verdict_taken : (phase : Phase) (j new : Judge) (q : Question) (said : lines.Said) (p : Progress)
    (found : Option Reason) → IsAt phase j p → IsSame j new
    → ((others : AllKept) → kept_in new.kept others ≡ kept_in j.kept others)
    → ((others : AllKept) → others.format ≡ 1
    → refusal_of q (kept_in j.kept others) said ≡ option_map reason_in found)
    → found ≡ None
    → IsAt at_rest (record new { kept = record new.kept { counted = 0 }; next = new.next + 1 })
    (takes_verdict said None p) × (refusal_of q p.kept said ≡ None)
verdict_taken phase j new q said p found a same kept right none = (
  record {
    is = refl;
    begun = a.begun ∙ sym same.begun;
    next = ap (λ n. n + 1) (a.next ∙ sym same.next);
    others = a.others;
    format = a.format;
    kept = ap (λ (k : AllKept). record k { counted = 0 }) (a.kept ∙ sym (kept a.others));
  },
  ap (λ k. refusal_of q k said) a.kept ∙ (right a.others a.format ∙ ap (option_map reason_in) none),
)

pub verdict_refused : (phase : Phase) (j new : Judge) (q : Question) (said : lines.Said) (p : Progress)
    (found : Option Reason) (reason : Reason) → IsAt phase j p → IsSame j new
    → ((others : AllKept) → others.format ≡ 1
    → refusal_of q (kept_in j.kept others) said ≡ option_map reason_in found)
    → found ≡ Some reason
    → IsRefusal (Refused new.next reason) p (takes_verdict said (refusal_of q p.kept said) p)
verdict_refused phase j new q said p found reason a same right is = (
  same.next ∙ sym a.next,
  ap (λ o. takes_verdict said o p)
      (ap (λ k. refusal_of q k said) a.kept ∙ (right a.others a.format ∙ ap (option_map reason_in) is)),
)

-- where the proof has not begun a line is the first one
pub first_due : (q : Question) (line : Line) (p : Progress) → p.phase ≡ at_check q → p.begun ≡ false
    → takes_in p.phase line p ≡ takes_first line p
first_due q line p is begun = ap (λ phase. takes_in phase line p) is
    ∙ ap (λ b. if b then takes_at_check q line p else takes_first line p) begun

pub first_due_last : (line : Line) (p : Progress) → p.phase ≡ at_end → p.begun ≡ false
    → takes_in p.phase line p ≡ takes_first line p
first_due_last line p is begun = ap (λ phase. takes_in phase line p) is
    ∙ ap (λ b. if b then takes_last line p else takes_first line p) begun

-- else it is taken by what is kept
pub line_due : (q : Question) (line : Line) (p : Progress) → p.phase ≡ at_check q → p.begun ≡ true
    → takes_in p.phase line p ≡ takes_at_check q line p
line_due q line p is begun = ap (λ phase. takes_in phase line p) is
    ∙ ap (λ b. if b then takes_at_check q line p else takes_first line p) begun

-- the error of what was called is the answer

pub first_refused : (r : Result Bool JudgeFault) (e f : JudgeFault) (q : Question) (j : Judge) (line : Line) → r ≡ Err e
    → e ≡ f → j.begun ≡ false
    → ((phase : Phase) (p : Progress) → IsAt phase j p → IsRefusal f p (takes_first line p))
    → IfErr r (λ fault. (p : Progress) → IsAt (at_check q) j p → IsRefusal fault p (takes_in p.phase line p))
first_refused r e f q j line is same first h = rw (is, same) (λ p a.
    subst (λ after. IsRefusal f p after) (sym (first_due q line p a.is (a.begun ∙ first))) (h (at_check q) p a))

pub first_refused_last : (r : Result Bool JudgeFault) (e f : JudgeFault) (j : Judge) (line : Line) → r ≡ Err e
    → e ≡ f → j.begun ≡ false
    → ((phase : Phase) (p : Progress) → IsAt phase j p → IsRefusal f p (takes_first line p))
    → IfErr r (λ fault. (p : Progress) → IsAt at_end j p → IsRefusal fault p (takes_in p.phase line p))
first_refused_last r e f j line is same first h = rw (is, same) (λ p a.
    subst (λ after. IsRefusal f p after) (sym (first_due_last line p a.is (a.begun ∙ first))) (h at_end p a))

-- Lines that are no verdict.

abbrev is_no_verdict : declared.Line → Type 0
is_no_verdict l = (said : Said) → l ≡ code.Verdict said → ⊥

kept_line : (l : declared.Line) → is_no_verdict l → (q : Question) (p : Progress)
    → takes_at_check q (line_in l) p ≡ takes_kept (follows q.asked p.kept (line_in l)) p
kept_line (code.Header format) none q p = refl
kept_line (code.Regex n) none q p = refl
kept_line (code.Atom a) none q p = refl
kept_line (code.Expansion regex classes) none q p = refl
kept_line (code.Dead regexes) none q p = refl
kept_line (code.Assertion place literal) none q p = refl
kept_line (code.Rule by literals) none q p = refl
kept_line (code.Learned literals hints) none q p = refl
kept_line (code.Verdict said) none q p = absurd (none said refl)
kept_line code.End none q p = refl

kept_said : (r : Result AllKept rules.Refusal) (p : Progress) → (takes_kept r p).said ≡ p.said
kept_said (Ok kept) p = refl
kept_said (Err refusal) p = refl

kept_due : (s : Stacked) (j : Judge) (l : declared.Line) (p : Progress) → is_no_verdict l → j.begun ≡ true
    → IsAt (waiting_in s) j p
    → takes_in p.phase (line_in l) p ≡ takes_kept (follows (asked_in (state_of s)) p.kept (line_in l)) p
kept_due s j l p none begun a = line_due (question_of s) (line_in l) p a.is (a.begun ∙ begun)
    ∙ kept_line l none (question_of s) p

pub other_refused : (r : Result Bool JudgeFault) (e f : JudgeFault) (s : Stacked) (j : Judge) (l : declared.Line)
    → r ≡ Err e → e ≡ f → j.begun ≡ true → ((said : Said) → l ≡ code.Verdict said → ⊥)
    → ((p : Progress) → IsAt (waiting_in s) j p
    → IsRefusal f p (takes_kept (follows (asked_in (state_of s)) p.kept (line_in l)) p))
    → IfErr r (λ fault. (p : Progress) → IsAt (waiting_in s) j p → IsRefusal fault p (takes_in p.phase (line_in l) p))
other_refused r e f s j l is same begun none h = rw (is, same) (λ p a.
    subst (λ after. IsRefusal f p after) (sym (kept_due s j l p none begun a)) (h p a))

pub other_taken : (s : Stacked) (j new : Judge) (l : declared.Line) → new.stack ≡ j.stack → s ≡ j.stack
    → j.begun ≡ true → ((said : Said) → l ≡ code.Verdict said → ⊥)
    → ((p : Progress) → IsAt (waiting_in s) j p
    → IsAt (waiting_in s) new (takes_kept (follows (asked_in (state_of s)) p.kept (line_in l)) p))
    → (p : Progress) → IsAt (waiting_in s) j p
    → Took None new p.said (takes_in p.phase (line_in l) p)
other_taken s j new l stack is begun none h p a =
    let due = kept_due s j l p none begun a in (
      subst (λ x. IsAt (waiting_in x) new (takes_in p.phase (line_in l) p)) (sym stack)
          (subst (λ x. IsAt (waiting_in x) new (takes_in p.phase (line_in l) p)) is
          (subst (λ after. IsAt (waiting_in s) new after) (sym due) (h p a))),
      ap (λ (after : Progress). after.said) due ∙ kept_said (follows (asked_in (state_of s)) p.kept (line_in l)) p,
    )
