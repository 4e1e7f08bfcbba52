use Rattle.std.proofs.Common.{◌≡◌, take}
use Rattle.std.specs.HashSet.{contains}
use Rattle.sb_lit.specs.declared.clause.Lit.{Lit}
use Rattle.sb_lit.specs.Clauses.{is_among}
use Rattle.sb_clauses.specs.Occurring.{are_equal}
use Rattle.sb_clauses.proofs.occurrences.set_of.Given as goal

abbrev pub invariant-loop-literal : goal.invariant-loop-literal
invariant-loop-literal l = (m : Lit) → contains are_equal l.all m ≡ is_among (take l.literal-index l.literals) m
