-- The scan has come to the index of the loop.
use Rattle.std.proofs.Common.{◌≡◌, ◌≤◌}
use Rattle.sb_reader.specs.Scanning.{IsScan}
use Rattle.sb_reader.proofs.scan.find_end.Given as goal

abbrev pub invariant-loop-i : goal.invariant-loop-i
invariant-loop-i l = record {
  scan : IsScan l.scan l.bytes;
  here : l.scan.scanned ≡ l.i;
  goes_on : l.fn.scan.scanned ≤ l.scan.scanned;
}
