-- Laws of proofs that are printed line by line: their bytes are gone through as the lines are.
use Rattle.std.specs.Prelude.{◌≡◌, ℕ, List, []}
use Rattle.sb_reader.specs.Entries.{Entry}
use Rattle.sb_rulebook.specs.Lines.{Line}
use Rattle.sb_rulebook.specs.Reading.{texts_of}
use Rattle.sb_rulebook.specs.Judging.{Event, Progress, take_line, goes_through, goes_along_all}
use Rattle.sb_rulebook.specs.JudgingTexts.{through, along_all}
use Rattle.sb_rulebook.specs.Accepted.{Accepted}
use Rattle.sb_rulebook.specs.Printed.{ArePrinted, IsPrintedProof}

-- A check that takes all of some lines takes all of their texts, and comes as far.
abbrev pub CheckTakesPrintedLines : Type 0
CheckTakesPrintedLines = (p after : Progress) (printed : List Line) (bytes : List ℕ) → ArePrinted printed bytes
    → goes_through take_line p printed ≡ (after, []) → through p (texts_of bytes) ≡ (after, [])

-- The texts of lines come as far along a script as the lines do.
abbrev pub PrintedProofGoesAlong : Type 0
PrintedProofGoesAlong = (p : Progress) (es : List Event) (printed : List Line) (bytes : List ℕ)
    → ArePrinted printed bytes → along_all p es (texts_of bytes) ≡ goes_along_all take_line p es printed

-- A proof that is printed line by line is accepted by its bytes.
abbrev pub PrintedProofIsAccepted : Type 0
PrintedProofIsAccepted = (entries : List Entry) (bytes : List ℕ) → IsPrintedProof entries bytes
    → Accepted entries bytes
