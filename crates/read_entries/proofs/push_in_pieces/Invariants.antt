use Rattle.std.proofs.Common.{◌≡◌, false}
use Rattle.read_entries.proofs.push_in_pieces.Given as goal

abbrev pub invariant-loop-bytes : goal.invariant-loop-bytes
invariant-loop-bytes l = l.feed.1 ≡ false
