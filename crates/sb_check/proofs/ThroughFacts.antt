-- What comes of a proof where a check waits, where the end is due, and where a line is refused.
use Rattle.std.proofs.Common.{◌≡◌, ℕ, Bool, true, false, cond, List, [], ◌∷◌, ◌++◌, Result, Ok, Err, refl, sym, ap, ◌∙◌}
use Rattle.std.proofs.lemmas.Bool.{false≢true}
use Rattle.sb_rulebook.specs.Refusals.{Refusal, unended, missing_line}
use Rattle.sb_rulebook.specs.Lines.{Line}
use Rattle.sb_rulebook.specs.Reading.{LineText, line_of, if_ended, read}
use Rattle.sb_rulebook.specs.Verdicts.{Question}
use Rattle.sb_rulebook.specs.Judging.{Event, asks, ends, Phase, at_rest, at_check, at_end, behind_end, stopped, Progress, met, meets, stop, is_at_check, accepted, refused, outcome_in, outcome_of, closed, closed_in}
use Rattle.sb_rulebook.specs.JudgingTexts.{takes_lines, takes_read, takes, takes_all, through, along, along_all}
use Rattle.sb_rulebook.specs.JudgingLaws.{RefusalIsFinal}
use Rattle.sb_script.specs.Steps.{Leaving, above, all}
use Rattle.sb_rulebook.specs.Accepted.{event_of_leaving}
use Rattle.sb_check.specs.Entering.{behind}
use Rattle.sb_check.specs.Through.{goes_through}

-- Where no check waits no line is due, and where one waits the next line is.

pub none_due : (phase : Phase) (p : Progress) (texts : List LineText) → is_at_check phase ≡ false → p.phase ≡ phase
    → through p texts ≡ (p, texts)
none_due phase p [] idle is = refl
none_due phase p (text ∷ texts) idle is =
    ap (λ b. cond b (through (takes text p) texts) (p, text ∷ texts)) (ap is_at_check is ∙ idle)

pub line_due : (q : Question) (p : Progress) (text : LineText) (texts : List LineText) → p.phase ≡ at_check q
    → through p (text ∷ texts) ≡ through (takes text p) texts
line_due q p text texts is =
    ap (λ (b : Bool). cond b (through (takes text p) texts) (p, text ∷ texts)) (ap is_at_check is)

-- Events.

meets_at_rest : (e : Event) (p : Progress) → p.phase ≡ at_rest → meets e p ≡ met e p
meets_at_rest e p is = ap (λ (phase : Phase). elim phase as (λ _. Progress) [
  | at_rest ↦ met e p
  | at_check q ↦ p
  | at_end ↦ p
  | behind_end ↦ p
  | stopped n refusal ↦ p
]) is

meets_at_check : (q : Question) (e : Event) (p : Progress) → p.phase ≡ at_check q → meets e p ≡ p
meets_at_check q e p is = ap (λ (phase : Phase). elim phase as (λ _. Progress) [
  | at_rest ↦ met e p
  | at_check other ↦ p
  | at_end ↦ p
  | behind_end ↦ p
  | stopped n refusal ↦ p
]) is

-- where levels are left no line is due

leaving_rests : (what : Leaving) (p : Progress) → p.phase ≡ at_rest → (met (event_of_leaving what) p).phase ≡ at_rest
leaving_rests (above n) p is = is
leaving_rests all p is = is

leaving_said : (what : Leaving) (p : Progress) → (met (event_of_leaving what) p).said ≡ p.said
leaving_said (above n) p = refl
leaving_said all p = refl

pub leaving_due : (what : Leaving) (p : Progress) (texts : List LineText) → p.phase ≡ at_rest
    → along p (event_of_leaving what ∷ []) texts ≡ (behind (event_of_leaving what ∷ []) p, texts)
leaving_due what p texts is =
    none_due at_rest (meets (event_of_leaving what) p) texts refl
    (ap (λ (q : Progress). q.phase) (meets_at_rest (event_of_leaving what) p is) ∙ leaving_rests what p is)

pub said_at_leaving : (what : Leaving) (p : Progress) → p.phase ≡ at_rest
    → (behind (event_of_leaving what ∷ []) p).said ≡ p.said
said_at_leaving what p is =
    ap (λ (q : Progress). q.said) (meets_at_rest (event_of_leaving what) p is) ∙ leaving_said what p

-- a check takes its lines

pub asked_due : (q : Question) (p : Progress) (texts : List LineText) → p.phase ≡ at_rest
    → along p (asks q ∷ []) texts ≡ through (record p { phase = at_check q }) texts
asked_due q p texts is = ap (λ (x : Progress). through x texts) (meets_at_rest (asks q) p is)

pub check_due : (q : Question) (p : Progress) (es : List Event) (texts : List LineText) → p.phase ≡ at_rest
    → along_all p (asks q ∷ es) texts ≡ goes_through (record p { phase = at_check q }) texts es
check_due q p es texts is =
    ap (λ x. let r = through x texts in let s = along r.0 (es ++ ends ∷ []) r.1 in takes_all s.1 s.0)
    (meets_at_rest (asks q) p is)

-- at the end all lines are due
pub end_due : (p : Progress) (texts : List LineText) → p.phase ≡ at_rest
    → along_all p [] texts ≡ takes_all texts (record p { phase = at_end })
end_due p texts is =
    ap (λ x. let r = through x texts in takes_all r.1 r.0) (meets_at_rest ends p is)
    ∙ ap (λ r. takes_all r.1 r.0) (none_due at_end (record p { phase = at_end }) texts refl refl)

-- No line is left.

along_nothing : (q : Question) (es : List Event) (p : Progress) → p.phase ≡ at_check q → along p es [] ≡ (p, [])
along_nothing q [] p is = refl
along_nothing q (e ∷ es) p is = ap (λ x. along x es []) (meets_at_check q e p is) ∙ along_nothing q es p is

pub missing_at_check : (q : Question) (p : Progress) (es : List Event) → p.phase ≡ at_check q
    → outcome_of (closed (goes_through p [] es)) ≡ refused p.said p.next missing_line
missing_at_check q p es is =
    ap (λ r. outcome_of (closed (takes_all r.1 r.0))) (along_nothing q (es ++ ends ∷ []) p is)
    ∙ ap (λ phase. outcome_of (closed_in phase p)) is

pub missing_at_end : (p : Progress) → p.phase ≡ at_end
    → outcome_of (closed p) ≡ refused p.said p.next missing_line
missing_at_end p is = ap (λ phase. outcome_of (closed_in phase p)) is

pub accepted_behind_end : (p : Progress) → p.phase ≡ behind_end → outcome_of (closed p) ≡ accepted p.said
accepted_behind_end p is =
    ap (λ phase. outcome_of (closed_in phase p)) is ∙ ap (λ phase. outcome_in phase p.said) is

-- A line is refused.

pub refused_at_check : (q : Question) (refusal : Refusal) (p : Progress) (text : LineText) (texts : List LineText)
    (es : List Event) → RefusalIsFinal → p.phase ≡ at_check q → takes text p ≡ stop refusal p
    → outcome_of (closed (goes_through p (text ∷ texts) es)) ≡ refused p.said p.next refusal
refused_at_check q refusal p text texts es final is stops =
    ap (λ (r : Progress × List LineText). outcome_of (closed (along_all r.0 es r.1))) (line_due q p text texts is)
    ∙ ap (λ x. outcome_of (closed (goes_through x texts es))) stops
    ∙ ap (λ r. outcome_of (closed (along_all r.0 es r.1)))
    (none_due (stopped p.next refusal) (stop refusal p) texts refl refl)
    ∙ ap outcome_of (final (stop refusal p) p.next refusal es texts refl)

-- a line without a line feed is refused where lines are due
unended-stops : (text : List ℕ) (p : Progress) → takes_lines p.phase ≡ true
    → (refusal : Refusal) × (takes (text, false) p ≡ stop refusal p)
unended-stops text p due = step (line_of text)
  where
    step : (r : Result Line Refusal) → (refusal : Refusal)
        × (takes_read (elim r as (λ _. Result Line Refusal) [
          | Ok line ↦ if_ended false line
          | Err other ↦ Err other
        ]) p ≡ stop refusal p)
    step (Ok line) = (unended, ap (λ b. cond b (stop unended p) p) due)
    step (Err other) = (other, ap (λ b. cond b (stop other p) p) due)

abbrev pub is_stopped : Phase → Bool
is_stopped at_rest = false
is_stopped (at_check q) = false
is_stopped at_end = false
is_stopped behind_end = false
is_stopped (stopped n refusal) = true

pub never_unended : (phase : Phase) (text : List ℕ) (p : Progress) → takes_lines p.phase ≡ true
    → is_stopped phase ≡ false → (takes (text, false) p).phase ≡ phase → ⊥
never_unended phase text p due goes is =
    let stops = unended-stops text p due in
    false≢true (sym goes ∙ sym (ap is_stopped is) ∙ ap (λ (q : Progress). is_stopped q.phase) stops.1)

takes-stopped : (refusal : Refusal) (p : Progress) (r : Result Line Refusal)
    → takes_read r (stop refusal p) ≡ stop refusal p
takes-stopped refusal p (Ok line) = refl
takes-stopped refusal p (Err other) = refl

all-stopped : (refusal : Refusal) (p : Progress) (texts : List LineText)
    → takes_all texts (stop refusal p) ≡ stop refusal p
all-stopped refusal p [] = refl
all-stopped refusal p (text ∷ texts) =
    ap (takes_all texts) (takes-stopped refusal p (read text)) ∙ all-stopped refusal p texts

pub refused_at_end : (refusal : Refusal) (p : Progress) (text : LineText) (texts : List LineText)
    → takes text p ≡ stop refusal p
    → outcome_of (closed (takes_all (text ∷ texts) p)) ≡ refused p.said p.next refusal
refused_at_end refusal p text texts stops =
    ap (λ x. outcome_of (closed (takes_all texts x))) stops
    ∙ ap (λ x. outcome_of (closed x)) (all-stopped refusal p texts)
