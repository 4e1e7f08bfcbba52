-- The exit status of the program.
use Rattle.std.specs.Prelude.{ℕ}
use Rattle.sb_session.specs.declared.solve.SolveStatus.{SolveStatus}
use Rattle.sb_session.specs.declared.solve.SolveStatus.TheVariants.{Done, Unfinished, Usage, Fault, NoMemory, InputLimit}

-- the number for each way that a run ends
abbrev pub number_of : SolveStatus → ℕ
number_of Done = 0
number_of Unfinished = 1
number_of Usage = 2
number_of Fault = 3
number_of NoMemory = 4
number_of InputLimit = 5
