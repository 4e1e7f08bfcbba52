use Rattle.std.proofs.Common.{◌<◌, ◌≤◌, ◌-◌, length, get_or}
use Rattle.sb_deriv.proofs.pieces.place_of.Given as goal

abbrev pub invariant-loop-high : goal.invariant-loop-high
invariant-loop-high l =
    (l.low < l.high)
    × (l.high ≤ length l.pieces)
    × ((get_or l.pieces l.low (0, 0)).0 ≤ l.c)
    × (l.high < length l.pieces → l.c < (get_or l.pieces l.high (0, 0)).0)

abbrev pub decreases-loop-high : goal.decreases-loop-high
decreases-loop-high l = l.high - l.low
