use Rattle.std.proofs.Common.{ℕ, ◌<◌, [], get_or}
use Rattle.sb_plain.specs.CutPoints.{ArePoints}
use Rattle.sb_plain.specs.Making.{Covers}
use Rattle.sb_plain.proofs.points.put_lists.Given as goal

abbrev pub invariant-loop-place : goal.invariant-loop-place
invariant-loop-place l = ArePoints l.set.keys × Covers l.set.keys l.fn.set.keys
    × ((j d : ℕ) → j < l.place-index → Covers l.set.keys (get_or l.lists (get_or l.places j d) []))
