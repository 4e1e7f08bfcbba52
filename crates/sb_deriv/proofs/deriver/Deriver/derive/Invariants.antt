use Rattle.std.proofs.Common.{◌+◌, ◌*◌}
use Rattle.sb_deriv.proofs.Waiting.{Deriving}
use Rattle.sb_deriv.specs.Choices.{AreConstants, lacking}
use Rattle.sb_deriv.proofs.deriver.Deriver.derive.Given as goal

abbrev pub invariant-loop-r : goal.invariant-loop-r
invariant-loop-r l = Deriving l.fn.arena l.arena l.fn.self l.self l.r l.next l.waiting.keys
    × AreConstants l.arena l.constants

abbrev pub decreases-loop-r : goal.decreases-loop-r
decreases-loop-r l = lacking l.self * (l.r + 1) + l.next
