use Rattle.std.proofs.Common.{take}
use Rattle.sb_clauses.specs.Adding.{AreEnough}
use Rattle.sb_clauses.proofs.watches.lists_for.Given as goal

abbrev pub invariant-loop-literal : goal.invariant-loop-literal
invariant-loop-literal l = AreEnough (take l.literal-index l.clause) l.lists
