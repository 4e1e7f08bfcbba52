use Rattle.std.proofs.Common.{◌≡◌, drop}
use Rattle.sb_class.specs.Ranges.{in_ranges}
use Rattle.sb_plain.proofs.shape.contains.Given as goal

abbrev pub invariant-loop-range : goal.invariant-loop-range
invariant-loop-range l = in_ranges (drop l.range-index l.ranges) l.c ≡ in_ranges l.ranges l.c
