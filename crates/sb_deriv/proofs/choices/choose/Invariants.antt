use Rattle.std.proofs.Common.{◌≡◌}
use Rattle.sb_deriv.proofs.Choosing.{Choosing}
use Rattle.sb_deriv.proofs.choices.choose.Given as goal

abbrev pub invariant-loop-i : goal.invariant-loop-i
invariant-loop-i l = (l.maps.items ≡ l.fn.maps.items)
    × Choosing l.constants l.operation l.fn.maps.items l.i l.c l.end l.ids.items
