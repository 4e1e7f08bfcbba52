use Rattle.sb_term.specs.Descending.{Reaching, top}
use Rattle.sb_fragment.specs.Ruled.{ruled_parts}
use Rattle.sb_fragment.proofs.ruled.terms_ruled.Given as goal

abbrev pub invariant-loop-next : goal.invariant-loop-next
invariant-loop-next l = Reaching ruled_parts l.table l.fn.id l.ids.items l.left.keys

abbrev pub decreases-loop-next : goal.decreases-loop-next
decreases-loop-next l = top l.left.keys
