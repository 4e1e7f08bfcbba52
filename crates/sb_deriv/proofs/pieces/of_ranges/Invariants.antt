use Rattle.std.proofs.Common.{drop}
use Rattle.sb_deriv.proofs.Ranging.{Ranging}
use Rattle.sb_deriv.proofs.pieces.of_ranges.Given as goal

abbrev pub invariant-loop-range : goal.invariant-loop-range
invariant-loop-range l = Ranging l.ranges (drop l.range-index l.ranges) l.pieces.items l.end l.within l.outside
