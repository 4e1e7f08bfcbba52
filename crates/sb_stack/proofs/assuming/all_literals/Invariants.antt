use Rattle.std.proofs.Common.{◌≡◌, drop}
use Rattle.sb_stack.specs.Assumptions.{all_literals}
use Rattle.sb_stack.proofs.Items.{with_front}
use Rattle.sb_stack.proofs.assuming.all_literals.Given as goal

abbrev pub invariant-loop-item : goal.invariant-loop-item
invariant-loop-item l =
    all_literals l.items ≡ with_front l.found.items (all_literals (drop l.item-index l.items))
