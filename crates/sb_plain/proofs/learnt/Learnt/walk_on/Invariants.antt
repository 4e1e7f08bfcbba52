use Rattle.std.proofs.Common.{ℕ, ◌<◌, ◌≤◌, ◌-◌, length}
use Rattle.sb_regex.specs.Numbered.{Extends}
use Rattle.sb_plain.specs.Memory.{LearntIsRight, IsStay}
use Rattle.sb_plain.proofs.learnt.Learnt.walk_on.Given as goal

abbrev pub invariant-loop-stay : goal.invariant-loop-stay
invariant-loop-stay l =
    ((n : ℕ) → n < length l.fn.arena → IsStay l.fn.arena n l.codes l.fn.begun → IsStay l.arena n l.codes l.stay)
    × Extends l.fn.arena l.arena
    × LearntIsRight l.arena l.self
    × (l.stay.rest < length l.arena)
    × (l.stay.from ≤ l.stay.to)

abbrev pub decreases-loop-stay : goal.decreases-loop-stay
decreases-loop-stay l = length l.codes - l.stay.to
