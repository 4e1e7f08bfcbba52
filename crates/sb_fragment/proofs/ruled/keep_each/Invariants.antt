use Rattle.std.proofs.Common.{◌≤◌, length}
use Rattle.sb_fragment.specs.Measures.{AreMeasures}
use Rattle.sb_fragment.specs.Ruled.{rule_in}
use Rattle.sb_fragment.proofs.RuledFacts.{KeepBehind}
use Rattle.sb_fragment.proofs.ruled.keep_each.Given as goal

abbrev pub invariant-loop-place : goal.invariant-loop-place
invariant-loop-place l = (l.place ≤ length l.fn.ids)
    × AreMeasures l.fn.table l.measures
    × KeepBehind (rule_in l.fn.law) l.fn.table l.fn.ids l.place

abbrev pub decreases-loop-place : goal.decreases-loop-place
decreases-loop-place l = l.place
