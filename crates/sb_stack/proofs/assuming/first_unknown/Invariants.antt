use Rattle.std.proofs.Common.{◌≡◌, drop}
use Rattle.sb_stack.specs.Assumptions.{first_unknown_in}
use Rattle.sb_stack.proofs.assuming.first_unknown.Given as goal

abbrev pub invariant-loop-item : goal.invariant-loop-item
invariant-loop-item l = first_unknown_in l.items ≡ first_unknown_in (drop l.item-index l.items)
