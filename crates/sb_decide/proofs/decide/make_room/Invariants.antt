use Rattle.sb_decide.proofs.Words.{◌-◌, length}
use Rattle.sb_decide.proofs.Constants.{Growing}
use Rattle.sb_decide.proofs.decide.make_room.Given as goal

abbrev pub invariant-loop-alloc : goal.invariant-loop-alloc
invariant-loop-alloc l = Growing l.fn.constants.items l.constants.items l.fn.count

abbrev pub decreases-loop-alloc : goal.decreases-loop-alloc
decreases-loop-alloc l = l.fn.count - length l.constants.items
