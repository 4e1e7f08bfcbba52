use Rattle.sb_members.proofs.Stronger.{IsNoting}
use Rattle.sb_members.proofs.needed.note.Given as goal

abbrev pub invariant-loop-left : goal.invariant-loop-left
invariant-loop-left l = IsNoting l.arena l.head l.fn.rest l.at l.fn.weaker.keys l.weaker.keys

abbrev pub decreases-loop-left : goal.decreases-loop-left
decreases-loop-left l = l.left
