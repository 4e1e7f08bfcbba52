use Rattle.std.proofs.Common.{◌≡◌}
use Rattle.sb_regex.proofs.arena.Arena.place.Given as goal

abbrev pub invariant-loop-pair : goal.invariant-loop-pair
invariant-loop-pair l = l.self ≡ l.fn.self
