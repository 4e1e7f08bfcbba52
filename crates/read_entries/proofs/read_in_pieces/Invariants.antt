use Rattle.std.proofs.Common.{◌≡◌, false}
use Rattle.read_entries.proofs.read_in_pieces.Given as goal

abbrev pub invariant-loop : goal.invariant-loop
invariant-loop l = l.feed.1 ≡ false
