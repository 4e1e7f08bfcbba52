use Rattle.std.proofs.Common.{◌≡◌, ℕ, ◌||◌, drop}
use Rattle.sb_class.specs.Ranges.{in_ranges, IsCanonical}
use Rattle.sb_class.specs.Ends.{StartsAfter}
use Rattle.sb_class.proofs.range_list.push_all.Given as goal

abbrev pub invariant-loop-range : goal.invariant-loop-range
invariant-loop-range l =
    IsCanonical l.out.items
    × StartsAfter l.out.items (drop l.range-index l.ranges)
    × ((c : ℕ) → (in_ranges l.out.items c || in_ranges (drop l.range-index l.ranges) c)
    ≡ (in_ranges l.fn.out.items c || in_ranges l.ranges c))
