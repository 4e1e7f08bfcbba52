use Rattle.std.proofs.Common.{◌≡◌, map, take}
use Rattle.sb_sorts.specs.Scopes.{constants_among}
use Rattle.sb_stack.specs.Stacked.{live_in}
use Rattle.sb_stack.proofs.value.live_constants.Given as goal

abbrev pub invariant-loop-place : goal.invariant-loop-place
invariant-loop-place l = map live_in l.found.items ≡ constants_among (take l.place l.scope.names)
