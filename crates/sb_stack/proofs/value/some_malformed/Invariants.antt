use Rattle.std.proofs.Common.{◌≡◌, map, drop}
use Rattle.sb_script.specs.Replies.{some_malformed}
use Rattle.sb_stack.specs.Values.{item_in}
use Rattle.sb_stack.proofs.value.some_malformed.Given as goal

abbrev pub invariant-loop-item : goal.invariant-loop-item
invariant-loop-item l = some_malformed (map item_in l.items) ≡ some_malformed (map item_in (drop l.item-index l.items))
