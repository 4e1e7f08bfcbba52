use Rattle.std.proofs.Common.{◌≤◌, ◌-◌, length}
use Rattle.sb_fragment.specs.Measures.{AreMeasures}
use Rattle.sb_fragment.specs.Inside.{AreInside}
use Rattle.sb_fragment.proofs.keeper.Fragment.stand.Given as goal

abbrev pub invariant-loop-self : goal.invariant-loop-self
invariant-loop-self l = AreInside l.self.inside l.fn.table l.fn.live × AreMeasures l.fn.table l.measures
    × (l.fn.self.inside ≤ l.self.inside)

abbrev pub decreases-loop-self : goal.decreases-loop-self
decreases-loop-self l = length l.fn.live - l.self.inside
