use Rattle.sb_decide.proofs.Words.{◌-◌, length}
use Rattle.sb_decide.proofs.Constants.{Filling}
use Rattle.sb_decide.proofs.closing.fill.Given as goal

abbrev pub invariant-loop-alloc : goal.invariant-loop-alloc
invariant-loop-alloc l = Filling l.fn.words.items l.words.items l.fn.count

abbrev pub decreases-loop-alloc : goal.decreases-loop-alloc
decreases-loop-alloc l = l.fn.count - length l.words.items
