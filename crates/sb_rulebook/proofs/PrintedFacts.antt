-- Printed lines, gone through as lines and as texts.
use Rattle.std.proofs.Common.{◌≡◌, ℕ, Bool, true, false, cond, List, [], ◌∷◌, ◌++◌, map, Ok, refl, ap, ap₂, subst, ◌∙◌}
use Rattle.sb_script.specs.State as state
use Rattle.sb_rulebook.specs.Lines.{Line}
use Rattle.sb_rulebook.specs.Reading.{LineText, read, texts_of}
use Rattle.sb_rulebook.specs.Judging.{Event, ends, Progress, beginning, meets, take_line, takes_each, is_at_check, goes_through, goes_along, outcome_of, closed}
use Rattle.sb_rulebook.specs.JudgingTexts.{takes_read, takes, takes_all, through, along}
use Rattle.sb_rulebook.specs.Accepted.{events}
use Rattle.sb_rulebook.specs.Printed.{ArePrinted}
use Rattle.sb_rulebook.proofs.LineFacts.{printed_proof_is_read}
use Rattle.sb_rulebook.specs.PrintedLaws.{CheckTakesPrintedLines, PrintedProofGoesAlong, PrintedProofIsAccepted}

-- the texts are read as the lines
abbrev AreReadAs : List LineText → List Line → Type 0
AreReadAs texts printed = map read texts ≡ map Ok printed

-- the texts came as far as the lines, and those that are left are read as the lines that are
abbrev IsSame : Progress × List LineText → Progress × List Line → Type 0
IsSame r s = (r.0 ≡ s.0) × AreReadAs r.1 s.1

none_read : (texts : List LineText) → AreReadAs texts [] → texts ≡ []
none_read [] h = refl
none_read (text ∷ texts) h = absurd (Prim.cc (h))

takes-line : (text : LineText) (line : Line) (p : Progress) → read text ≡ Ok line → takes text p ≡ take_line line p
takes-line text line p h = ap (λ r. takes_read r p) h

through-read : (p : Progress) (texts : List LineText) (printed : List Line) → AreReadAs texts printed
    → IsSame (through p texts) (goes_through take_line p printed)
through-read p [] [] h = (refl, refl)
through-read p [] (line ∷ printed) h = absurd (Prim.cc (h))
through-read p (text ∷ texts) [] h = absurd (Prim.cc (h))
through-read p (text ∷ texts) (line ∷ printed) h =
    let first : read text ≡ Ok line = Prim.cc (h) in
    let others : AreReadAs texts printed = Prim.cc (h) in
    let rest : IsSame (through (takes text p) texts) (goes_through take_line (take_line line p) printed) =
    subst (λ q. IsSame (through (takes text p) texts) (goes_through take_line q printed)) (takes-line text line p first)
    (through-read (takes text p) texts printed others) in
    step rest (is_at_check p.phase)
  where
    step : IsSame (through (takes text p) texts) (goes_through take_line (take_line line p) printed) → (b : Bool)
        → IsSame (cond b (through (takes text p) texts) (p, text ∷ texts))
        (cond b (goes_through take_line (take_line line p) printed) (p, line ∷ printed))
    step rest true = rest
    step rest false = (refl, h)

along-read : (p q : Progress) (es : List Event) (texts : List LineText) (printed : List Line) → p ≡ q
    → AreReadAs texts printed → IsSame (along p es texts) (goes_along take_line q es printed)
along-read p q [] texts printed same h = (same, h)
along-read p q (e ∷ es) texts printed same h =
    let r = through (meets e p) texts in
    let s = goes_through take_line (meets e p) printed in
    let on : IsSame r s = through-read (meets e p) texts printed h in
    subst (λ (o : Progress). IsSame (along p (e ∷ es) texts) (goes_along take_line o (e ∷ es) printed)) same
    (along-read r.0 s.0 es r.1 s.1 on.0 on.1)

all-read : (p q : Progress) (texts : List LineText) (printed : List Line) → p ≡ q → AreReadAs texts printed
    → takes_all texts p ≡ takes_each take_line printed q
all-read p q [] [] same h = same
all-read p q [] (line ∷ printed) same h = absurd (Prim.cc (h))
all-read p q (text ∷ texts) [] same h = absurd (Prim.cc (h))
all-read p q (text ∷ texts) (line ∷ printed) same h =
    let first : read text ≡ Ok line = Prim.cc (h) in
    let others : AreReadAs texts printed = Prim.cc (h) in
    all-read (takes text p) (take_line line q) texts printed
    (takes-line text line p first ∙ ap (take_line line) same) others

-- the texts of printed bytes
printed-texts : (printed : List Line) (bytes : List ℕ) → ArePrinted printed bytes → AreReadAs (texts_of bytes) printed
printed-texts printed bytes h = ap (λ all. map read (texts_of all)) h.1 ∙ printed_proof_is_read printed h.0

pub check_takes_printed_lines : CheckTakesPrintedLines
check_takes_printed_lines p after printed bytes h goes =
    let same = through-read p (texts_of bytes) printed (printed-texts printed bytes h) in
    let r = through p (texts_of bytes) in
    let left : r.1 ≡ [] = none_read r.1 (same.1 ∙ ap (λ s. map Ok s.1) goes) in
    ap₂ (λ (q : Progress) (texts : List LineText). (q, texts)) (same.0 ∙ ap (λ s. s.0) goes) left

pub printed_proof_goes_along : PrintedProofGoesAlong
printed_proof_goes_along p es printed bytes h =
    let same =
    along-read p p (es ++ ends ∷ []) (texts_of bytes) printed refl (printed-texts printed bytes h) in
    let r = along p (es ++ ends ∷ []) (texts_of bytes) in
    let s = goes_along take_line p (es ++ ends ∷ []) printed in
    all-read r.0 s.0 r.1 s.1 same.0 same.1

pub printed_proof_is_accepted : PrintedProofIsAccepted
printed_proof_is_accepted entries bytes h =
    let accepts = h.2 in (
      accepts.0,
      ap (λ (p : Progress). outcome_of (closed p))
          (printed_proof_goes_along beginning (events state.start entries) h.0 bytes h.1) ∙ accepts.1,
    )
