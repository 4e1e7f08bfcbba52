use Rattle.std.proofs.Common.{◌≡◌, map, drop}
use Rattle.sb_script.specs.Replies.{first_unknown}
use Rattle.sb_stack.specs.Values.{item_in}
use Rattle.sb_stack.proofs.value.first_unknown.Given as goal

abbrev pub invariant-loop-item : goal.invariant-loop-item
invariant-loop-item l = first_unknown (map item_in l.items) ≡ first_unknown (map item_in (drop l.item-index l.items))
