-- Private: the lines that are written.
use Rattle.std.specs.Prelude.{ℕ, List, ◌++◌, codes, decimal}
use Rattle.sb_script.specs.Steps.{line}
use Rattle.sb_rulebook.specs.Lines.{Said}
use Rattle.sb_rulebook.specs.Refusals.{Refusal, reason}
use Rattle.sb_rulebook.specs.Accepted.{said_text}

-- the verdict of a check, by its number
abbrev pub verdict_line : ℕ → Said → List ℕ
verdict_line n said = line (codes "check " ++ (decimal n ++ (codes ": " ++ said_text said)))

-- the line that is refused, and why
abbrev pub refusal_line : ℕ → Refusal → List ℕ
refusal_line n refusal = line (codes "refused at line " ++ (decimal n ++ (codes ": " ++ reason refusal)))

abbrev pub accepted_line : List ℕ
accepted_line = line (codes "accepted")
