use Rattle.std.proofs.Common.{◌≡◌, ◌-◌}
use Rattle.sb_deriv.proofs.Choosing.{Sweeping}
use Rattle.sb_deriv.proofs.choices.fill.Given as goal

abbrev pub invariant-loop-first : goal.invariant-loop-first
invariant-loop-first l =
    (l.maps.items ≡ l.fn.maps.items) × Sweeping l.constants l.operation l.fn.maps.items l.choices l.first

abbrev pub decreases-loop-first : goal.decreases-loop-first
decreases-loop-first l = 0x30000 - l.first
