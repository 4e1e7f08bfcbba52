use Rattle.std.proofs.Common.{◌≡◌, take}
use Rattle.sb_clauses.proofs.clauses.compact.Given as goal

abbrev pub invariant-loop-literal : goal.invariant-loop-literal
invariant-loop-literal l = l.kept.items ≡ take l.literal-index l.literals
