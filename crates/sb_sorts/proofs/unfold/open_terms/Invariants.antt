use Rattle.sb_term.specs.Descending.{Reaching, top}
use Rattle.sb_sorts.specs.Unfolding.{open_parts}
use Rattle.sb_sorts.proofs.unfold.open_terms.Given as goal

abbrev pub invariant-loop-next : goal.invariant-loop-next
invariant-loop-next l = Reaching open_parts l.table l.fn.body l.ids.items l.left.keys

abbrev pub decreases-loop-next : goal.decreases-loop-next
decreases-loop-next l = top l.left.keys
