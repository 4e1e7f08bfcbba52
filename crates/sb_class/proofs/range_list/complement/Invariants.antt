use Rattle.std.proofs.Common.{drop}
use Rattle.sb_class.proofs.Gaps.{Gapped}
use Rattle.sb_class.proofs.range_list.complement.Given as goal

abbrev pub invariant-loop-range : goal.invariant-loop-range
invariant-loop-range l = Gapped l.ranges l.out.items (drop l.range-index l.ranges) l.next
