use Rattle.std.proofs.Common.{◌≡◌, map, drop}
use Rattle.sb_script.specs.Replies.{all_constants}
use Rattle.sb_stack.specs.Values.{item_in, asked_in}
use Rattle.sb_stack.proofs.Items.{with_front}
use Rattle.sb_stack.proofs.value.all_constants.Given as goal

abbrev pub invariant-loop-item : goal.invariant-loop-item
invariant-loop-item l =
    all_constants (map item_in l.items)
    ≡ with_front (map asked_in l.found.items) (all_constants (map item_in (drop l.item-index l.items)))
