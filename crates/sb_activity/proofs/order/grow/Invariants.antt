use Rattle.std.proofs.Common.{◌≡◌, ℕ, ◌-◌, ◌≤◌, ◌++◌, false, length, replicate}
use Rattle.std.specs.Vec.{vec_capacity}
use Rattle.sb_activity.specs.Places.{AreInverse}
use Rattle.sb_activity.specs.Waiting.{are_first}
use Rattle.sb_activity.proofs.order.grow.Given as goal

abbrev pub invariant-loop-atom : goal.invariant-loop-atom
invariant-loop-atom l = (AreInverse l.heap.items l.places.items) × (l.atom ≡ length l.places.items)
    × (length l.fn.heap.items ≤ length l.heap.items) × (length l.fn.places.items ≤ l.atom)
    × (l.atoms ≤ vec_capacity l.heap) × (l.atoms ≤ vec_capacity l.places)
    × ((count : ℕ) → count ≤ length l.fn.places.items → are_first count l.places.items
    ≡ are_first count l.fn.places.items ++ replicate (l.atom - length l.fn.places.items) false)
