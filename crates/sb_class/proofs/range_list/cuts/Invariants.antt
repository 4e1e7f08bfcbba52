use Rattle.std.proofs.Common.{◌≡◌, ◌++◌, drop}
use Rattle.sb_class.proofs.Cutting.{cuts_of}
use Rattle.sb_class.proofs.range_list.cuts.Given as goal

abbrev pub invariant-loop-range : goal.invariant-loop-range
invariant-loop-range l = l.cuts.items ++ cuts_of (drop l.range-index l.ranges) ≡ cuts_of l.ranges
