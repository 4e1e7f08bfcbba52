use Rattle.std.proofs.Common.{List, length}
use Rattle.std.specs.BinaryHeap.{IsHeap, heap_items}
use Rattle.sb_lit.specs.declared.clause.Lit.{Lit}
use Rattle.sb_hints.specs.Listing.{last_at}
use Rattle.sb_hints.specs.Dropping.{scope_order}
use Rattle.sb_hints.specs.Keeping.{AreInOrder, IsTurn}
use Rattle.sb_hints.proofs.levels.drop_left.Given as goal

abbrev pub invariant-loop-down_to : goal.invariant-loop-down_to
invariant-loop-down_to l = IsHeap scope_order (heap_items l.scoped)
    × ((literals : List Lit)
    → AreInOrder literals l.initial.rows.items (last_at l.initial.lists l.initial.bare) (heap_items l.initial.scoped)
    → IsTurn l.down_to literals l.initial.rows.items l.rows.items (last_at l.lists l.bare) (heap_items l.scoped))

abbrev pub decreases-loop-down_to : goal.decreases-loop-down_to
decreases-loop-down_to l = length (heap_items l.scoped)
