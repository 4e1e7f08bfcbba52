use Rattle.sb_term.specs.Numbered.{terms_at}
use Rattle.sb_problem.specs.Taking.{Spelling, weight_of}
use Rattle.sb_problem.proofs.normals.Normals.letters.Given as goal

abbrev pub invariant-loop-next : goal.invariant-loop-next
invariant-loop-next l = Spelling l.fn.table l.fn.id l.letters.items l.left.items

abbrev pub decreases-loop-next : goal.decreases-loop-next
decreases-loop-next l = weight_of (terms_at l.fn.table l.left.items)
