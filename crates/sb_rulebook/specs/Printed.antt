-- Proofs that are printed line by line.
use Rattle.std.specs.Prelude.{◌≡◌, ℕ, true, List, map}
use Rattle.std.specs.List.{list_all}
use Rattle.sb_reader.specs.Entries.{Entry}
use Rattle.sb_script.specs.State as state
use Rattle.sb_rulebook.specs.Lines.{Line, Said, text_of}
use Rattle.sb_rulebook.specs.LineLaws.{has_text, bytes_of}
use Rattle.sb_rulebook.specs.Judging.{beginning, take_line, goes_along_all, accepted, outcome_of, closed}
use Rattle.sb_rulebook.specs.Accepted.{events}

-- The bytes are these lines, each with its text and a line feed behind it.
abbrev pub ArePrinted : List Line → List ℕ → Type 0
ArePrinted printed bytes = (list_all has_text printed ≡ true) × (bytes ≡ bytes_of (map text_of printed))

-- The lines are an accepted proof of the script with these entries.
abbrev pub AcceptedLines : List Entry → List Line → Type 0
AcceptedLines entries printed = (verdicts : List Said)
    × (outcome_of (closed (goes_along_all take_line beginning (events state.start entries) printed))
    ≡ accepted verdicts)

-- The bytes are lines that are such a proof.
abbrev pub IsPrintedProof : List Entry → List ℕ → Type 0
IsPrintedProof entries bytes = (printed : List Line) × ArePrinted printed bytes × AcceptedLines entries printed
