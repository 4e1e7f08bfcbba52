use Rattle.std.proofs.Common.{◌≡◌, ℕ, take}
use Rattle.sb_trace.specs.Reaching.{is_member}
use Rattle.sb_trace.specs.Pairing.{has_first}
use Rattle.sb_trace.proofs.trace.within.add_firsts.Given as goal

abbrev pub invariant-loop-pair : goal.invariant-loop-pair
invariant-loop-pair l = (n : ℕ) → is_member l.members.keys n ≡ has_first l.arena (take l.pair-index l.pairs) n
