use Rattle.std.proofs.Common.{◌+◌, ◌-◌, length}
use Rattle.sb_fragment.specs.Measures.{AreMeasures}
use Rattle.sb_fragment.proofs.measures.extend.Given as goal

abbrev pub invariant-loop-id : goal.invariant-loop-id
invariant-loop-id l = AreMeasures l.fn.table l.measures.items

abbrev pub decreases-loop-id : goal.decreases-loop-id
decreases-loop-id l = (l.id + 1) - length l.measures.items
