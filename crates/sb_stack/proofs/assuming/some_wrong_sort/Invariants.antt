use Rattle.std.proofs.Common.{◌≡◌, drop}
use Rattle.sb_stack.specs.Assumptions.{some_wrong_sort}
use Rattle.sb_stack.proofs.assuming.some_wrong_sort.Given as goal

abbrev pub invariant-loop-item : goal.invariant-loop-item
invariant-loop-item l = some_wrong_sort l.items ≡ some_wrong_sort (drop l.item-index l.items)
