-- Laws of proofs along scripts: what comes in two parts is gone through part by part.
use Rattle.std.specs.Prelude.{◌≡◌, ℕ, true, if◌then◌else◌, List, [], ◌++◌}
use Rattle.sb_rulebook.specs.Reading.{LineText}
use Rattle.sb_rulebook.specs.Refusals.{Refusal}
use Rattle.sb_rulebook.specs.Judging.{Event, stopped, Progress, is_at_check, closed}
use Rattle.sb_rulebook.specs.JudgingTexts.{takes_all, through, along, along_all}

-- Lines are taken one behind the other.
abbrev pub LinesAreTakenInOrder : Type 0
LinesAreTakenInOrder = (p : Progress) (texts more : List LineText)
    → takes_all (texts ++ more) p ≡ takes_all more (takes_all texts p)

-- Events are met one behind the other, each with the lines that those before it left.
abbrev pub EventsAreMetInOrder : Type 0
EventsAreMetInOrder = (p : Progress) (es fs : List Event) (texts : List LineText)
    → along p (es ++ fs) texts ≡ (let r = along p es texts in along r.0 fs r.1)

-- Where a check still waits behind some lines it goes on with the others; else the lines that it left stand in front of
-- the others.
abbrev pub CheckGoesThroughInOrder : Type 0
CheckGoesThroughInOrder = (p : Progress) (texts more : List LineText)
    → through p (texts ++ more)
    ≡ (let r = through p texts in if is_at_check r.0.phase then through r.0 more else (r.0, r.1 ++ more))

-- A check that still waits behind some lines has taken all of them.
abbrev pub WaitingCheckTookAll : Type 0
WaitingCheckTookAll = (p : Progress) (texts : List LineText) → is_at_check (through p texts).0.phase ≡ true
    → through p texts ≡ (takes_all texts p, [])

-- A check takes the first lines, and leaves the others.
abbrev pub CheckTakesFirstLines : Type 0
CheckTakesFirstLines = (p : Progress) (texts : List LineText)
    → (taken : List LineText)
    × (((taken ++ (through p texts).1) ≡ texts) × (takes_all taken p ≡ (through p texts).0))

-- A proof goes along the first events of a script, and then along the others to the end.
abbrev pub ProofGoesAlongInOrder : Type 0
ProofGoesAlongInOrder = (p : Progress) (es fs : List Event) (texts : List LineText)
    → along_all p (es ++ fs) texts ≡ (let r = along p es texts in along_all r.0 fs r.1)

-- Where a line is refused nothing changes any more, whatever comes.
abbrev pub RefusalIsFinal : Type 0
RefusalIsFinal = (p : Progress) (n : ℕ) (refusal : Refusal) (es : List Event) (texts : List LineText)
    → p.phase ≡ stopped n refusal → closed (along_all p es texts) ≡ p
