use Rattle.std.proofs.Common.{take}
use Rattle.sb_clauses.specs.Occurring.{IsHomeSoFar}
use Rattle.sb_clauses.proofs.occurrences.home_for.Given as goal

abbrev pub invariant-loop-literal : goal.invariant-loop-literal
invariant-loop-literal l = IsHomeSoFar (take l.literal-index l.clause) l.home
