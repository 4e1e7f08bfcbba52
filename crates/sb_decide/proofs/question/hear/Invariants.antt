use Rattle.sb_decide.proofs.Words.{AreMeasures, top}
use Rattle.sb_decide.proofs.Occurring.{Walking}
use Rattle.sb_decide.proofs.question.hear.Given as goal

abbrev pub invariant-loop-id : goal.invariant-loop-id
invariant-loop-id l = Walking l.table l.assertions l.places l.left.keys l.fn.serials.keys l.serials.keys
    × AreMeasures l.table l.measures

abbrev pub decreases-loop-id : goal.decreases-loop-id
decreases-loop-id l = top l.left.keys
