-- Proofs along scripts, part by part.
use Rattle.std.proofs.Common.{◌≡◌, ℕ, if◌then◌else◌, Result, Ok, Err, Bool, true, false, cond, List, [], ◌∷◌, ◌++◌, refl, sym, ap, ◌∙◌}
use Rattle.std.proofs.lemmas.Bool.{true≢false}
use Rattle.std.proofs.lemmas.List.{append_assoc}
use Rattle.sb_rulebook.specs.Refusals.{Refusal}
use Rattle.sb_rulebook.specs.Lines.{Line}
use Rattle.sb_rulebook.specs.Reading.{LineText, read}
use Rattle.sb_rulebook.specs.Judging.{Event, ends, Phase, at_rest, at_check, at_end, behind_end, stopped, Progress, met, meets, stop, takes_in, is_at_check, closed, closed_in}
use Rattle.sb_rulebook.specs.JudgingTexts.{takes_lines, takes_read, takes, takes_all, through, along}
use Rattle.sb_rulebook.specs.JudgingLaws.{LinesAreTakenInOrder, EventsAreMetInOrder, CheckGoesThroughInOrder, WaitingCheckTookAll, CheckTakesFirstLines, ProofGoesAlongInOrder, RefusalIsFinal}

pub lines_in_order : LinesAreTakenInOrder
lines_in_order p [] more = refl
lines_in_order p (text ∷ texts) more = lines_in_order (takes text p) texts more

pub events_in_order : EventsAreMetInOrder
events_in_order p [] fs texts = refl
events_in_order p (e ∷ es) fs texts =
    let r = through (meets e p) texts in events_in_order r.0 es fs r.1

through-left : (p : Progress) (texts : List LineText) → is_at_check p.phase ≡ false → through p texts ≡ (p, texts)
through-left p [] idle = refl
through-left p (text ∷ texts) idle = ap (λ b. cond b (through (takes text p) texts) (p, text ∷ texts)) idle

-- what a check goes through with more lines, from what it went through without
on : List LineText → Progress × List LineText → Progress × List LineText
on more r = cond (is_at_check r.0.phase) (through r.0 more) (r.0, r.1 ++ more)

through-on-left : (p : Progress) (texts more : List LineText) → is_at_check p.phase ≡ false
    → on more (p, texts) ≡ (p, texts ++ more)
unfolding on
through-on-left p texts more idle = ap (λ b. cond b (through p more) (p, texts ++ more)) idle

through-append : (p : Progress) (texts more : List LineText) → through p (texts ++ more) ≡ on more (through p texts)
unfolding on
through-append p [] more = step (is_at_check p.phase) refl
  where
    step : (b : Bool) → is_at_check p.phase ≡ b → through p more ≡ cond b (through p more) (p, more)
    step true is = refl
    step false is = through-left p more is
through-append p (text ∷ texts) more =
    step (through-append (takes text p) texts more) (is_at_check p.phase) refl
  where
    step : through (takes text p) (texts ++ more) ≡ on more (through (takes text p) texts) → (b : Bool)
        → is_at_check p.phase ≡ b → cond b (through (takes text p) (texts ++ more)) (p, text ∷ (texts ++ more))
        ≡ on more (cond b (through (takes text p) texts) (p, text ∷ texts))
    step rest true is = rest
    step rest false is = sym (through-on-left p (text ∷ texts) more is)

pub check_in_order : CheckGoesThroughInOrder
unfolding on
check_in_order = through-append

pub waiting_took_all : WaitingCheckTookAll
waiting_took_all p [] waits = refl
waiting_took_all p (text ∷ texts) waits =
    step (waiting_took_all (takes text p) texts) (is_at_check p.phase) refl waits
  where
    step : (is_at_check (through (takes text p) texts).0.phase ≡ true
        → through (takes text p) texts ≡ (takes_all texts (takes text p), [])) → (b : Bool) → is_at_check p.phase ≡ b
        → is_at_check (cond b (through (takes text p) texts) (p, text ∷ texts)).0.phase ≡ true
        → cond b (through (takes text p) texts) (p, text ∷ texts) ≡ (takes_all texts (takes text p), [])
    step rest true is waits = rest waits
    step rest false is waits = absurd (true≢false (sym waits ∙ is))

pub takes_first_lines : CheckTakesFirstLines
takes_first_lines p [] = ([], (refl, refl))
takes_first_lines p (text ∷ texts) = step (takes_first_lines (takes text p) texts) (is_at_check p.phase)
  where
    step : (taken : List LineText) × (((taken ++ (through (takes text p) texts).1) ≡ texts)
        × (takes_all taken (takes text p) ≡ (through (takes text p) texts).0)) → (b : Bool)
        → let r = cond b (through (takes text p) texts) (p, text ∷ texts) in
        (taken : List LineText) × (((taken ++ r.1) ≡ (text ∷ texts)) × (takes_all taken p ≡ r.0))
    step rest true = (text ∷ rest.0, (ap (λ ts. text ∷ ts) rest.1.0, rest.1.1))
    step rest false = ([], (refl, refl))

pub proof_in_order : ProofGoesAlongInOrder
proof_in_order p es fs texts =
    ap (λ all. let r = along p all texts in takes_all r.1 r.0) (append_assoc es fs (ends ∷ []))
    ∙ ap (λ r. takes_all r.1 r.0) (events_in_order p es (fs ++ ends ∷ []) texts)

-- Behind a refusal.

takes-stopped : (p : Progress) (n : ℕ) (refusal : Refusal) (r : Result Line Refusal) → p.phase ≡ stopped n refusal
    → takes_read r p ≡ p
takes-stopped p n refusal (Ok line) is = ap (λ phase. takes_in phase line p) is
takes-stopped p n refusal (Err other) is = ap (λ phase. if takes_lines phase then stop other p else p) is

all-stopped : (p : Progress) (n : ℕ) (refusal : Refusal) (texts : List LineText) → p.phase ≡ stopped n refusal
    → takes_all texts p ≡ p
all-stopped p n refusal [] is = refl
all-stopped p n refusal (text ∷ texts) is =
    ap (takes_all texts) (takes-stopped p n refusal (read text) is) ∙ all-stopped p n refusal texts is

meets-stopped : (p : Progress) (n : ℕ) (refusal : Refusal) (e : Event) → p.phase ≡ stopped n refusal → meets e p ≡ p
meets-stopped p n refusal e is = ap (λ (phase : Phase). elim phase as (λ _. Progress) [
  | at_rest ↦ met e p
  | at_check q ↦ p
  | at_end ↦ p
  | behind_end ↦ p
  | stopped m other ↦ p
]) is

along-stopped : (p : Progress) (n : ℕ) (refusal : Refusal) (es : List Event) (texts : List LineText)
    → p.phase ≡ stopped n refusal → along p es texts ≡ (p, texts)
along-stopped p n refusal [] texts is = refl
along-stopped p n refusal (e ∷ es) texts is =
    ap (λ q. let r = through q texts in along r.0 es r.1) (meets-stopped p n refusal e is)
    ∙ ap (λ r. along r.0 es r.1) (through-left p texts (ap is_at_check is))
    ∙ along-stopped p n refusal es texts is

pub refusal_is_final : RefusalIsFinal
refusal_is_final p n refusal es texts is =
    ap (λ r. closed (takes_all r.1 r.0)) (along-stopped p n refusal (es ++ ends ∷ []) texts is)
    ∙ ap closed (all-stopped p n refusal texts is) ∙ ap (λ phase. closed_in phase p) is
