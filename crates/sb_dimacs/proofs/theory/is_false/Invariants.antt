use Rattle.std.proofs.Common.{◌≡◌, true, take}
use Rattle.sb_lit.specs.Clauses.{is_false_clause}
use Rattle.sb_trail.specs.Assignments.{held}
use Rattle.sb_dimacs.proofs.theory.is_false.Given as goal

abbrev pub invariant-loop-literal : goal.invariant-loop-literal
invariant-loop-literal l = is_false_clause (held l.trail.literals) (take l.literal-index l.literals) ≡ true
