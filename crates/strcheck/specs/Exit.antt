-- The exit status of the program.
use Rattle.std.specs.Prelude.{ℕ}
use Rattle.sb_check.specs.declared.check.CheckStatus.{CheckStatus}
use Rattle.sb_check.specs.declared.check.CheckStatus.TheVariants.{Accepted, Refused, Usage, Fault, NoMemory, InputLimit}

-- the number for each way that a run ends
abbrev pub number_of : CheckStatus → ℕ
number_of Accepted = 0
number_of Refused = 1
number_of Usage = 2
number_of Fault = 3
number_of NoMemory = 4
number_of InputLimit = 5
