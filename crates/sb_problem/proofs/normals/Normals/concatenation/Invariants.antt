use Rattle.sb_regex.specs.Numbered.{Extends}
use Rattle.sb_term.specs.Numbered.{terms_at}
use Rattle.sb_problem.proofs.Chains.{Joining, total}
use Rattle.sb_problem.proofs.normals.Normals.concatenation.Given as goal

abbrev pub invariant-loop-last : goal.invariant-loop-last
invariant-loop-last l = Joining l.fn.table l.arena l.fn.self l.fn.id l.left.items l.whole × Extends l.fn.arena l.arena

abbrev pub decreases-loop-last : goal.decreases-loop-last
decreases-loop-last l = total (terms_at l.fn.table l.left.items)
