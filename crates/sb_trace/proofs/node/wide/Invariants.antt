use Rattle.std.proofs.Common.{◌≡◌, take}
use Rattle.sb_trace.proofs.node.wide.Given as goal

abbrev pub invariant-loop-first : goal.invariant-loop-first
invariant-loop-first l = l.all.items ≡ take l.first-index l.ranges
