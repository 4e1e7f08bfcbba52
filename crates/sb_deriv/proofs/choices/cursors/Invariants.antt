use Rattle.std.proofs.Common.{◌≡◌, take}
use Rattle.sb_deriv.proofs.choices.cursors.Given as goal

abbrev pub invariant-loop-map : goal.invariant-loop-map
invariant-loop-map l = l.cursors.items ≡ take l.map-index l.maps
