use Rattle.std.proofs.Common.{◌≡◌, drop}
use Rattle.sb_lit.specs.Clauses.{are_ascending}
use Rattle.sb_hints.proofs.Steps.{rises_all}
use Rattle.sb_hints.proofs.judge.are_ascending.Given as goal

abbrev pub invariant-loop-literal : goal.invariant-loop-literal
invariant-loop-literal l = rises_all l.before (drop l.literal-index l.literals) ≡ are_ascending l.literals
