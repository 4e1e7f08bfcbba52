use Rattle.std.proofs.Common.{◌≡◌, ◌-◌, length}
use Rattle.sb_activity.specs.Places.{AreInverse}
use Rattle.sb_activity.specs.Waiting.{are_first}
use Rattle.sb_activity.proofs.heap.sift_down.Given as goal

abbrev pub invariant-loop-at : goal.invariant-loop-at
invariant-loop-at l = (AreInverse l.heap l.places) × (length l.heap ≡ length l.fn.heap)
    × (are_first l.count l.places ≡ are_first l.count l.fn.places)

abbrev pub decreases-loop-at : goal.decreases-loop-at
decreases-loop-at l = l.count - l.at
