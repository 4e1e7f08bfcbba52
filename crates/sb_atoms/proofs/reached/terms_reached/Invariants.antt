use Rattle.sb_term.specs.Descending.{Reaching, top}
use Rattle.sb_atoms.specs.Reaching.{connected_parts}
use Rattle.sb_atoms.proofs.reached.terms_reached.Given as goal

abbrev pub invariant-loop-next : goal.invariant-loop-next
invariant-loop-next l = Reaching connected_parts l.table l.fn.id l.ids.items l.left.keys

abbrev pub decreases-loop-next : goal.decreases-loop-next
decreases-loop-next l = top l.left.keys
