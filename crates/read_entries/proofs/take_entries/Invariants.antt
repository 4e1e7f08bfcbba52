use Rattle.std.proofs.Common.{◌≡◌, length}
use Rattle.read_entries.proofs.take_entries.Given as goal

abbrev pub invariant-loop-next : goal.invariant-loop-next
invariant-loop-next l = l.feed.1 ≡ l.fn.feed.1

abbrev pub decreases-loop-next : goal.decreases-loop-next
decreases-loop-next l = length l.feed.0
