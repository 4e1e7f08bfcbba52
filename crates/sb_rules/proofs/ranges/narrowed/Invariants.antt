use Rattle.std.proofs.Common.{◌≡◌, take}
use Rattle.sb_rules.proofs.ranges.narrowed.Given as goal

abbrev pub invariant-loop-range : goal.invariant-loop-range
invariant-loop-range l = l.narrow.items ≡ take l.range-index l.ranges
