-- What each step says, and what the scan of all bytes says.
use Rattle.std.proofs.Common.{arith}
use Rattle.sb_reader.proofs.Goes.{IsScan-to, ends_before, ends_behind, scan_found}
use Rattle.sb_reader.proofs.scan.find_end.Goals as goal

pub returns-in-EndsBefore-clause-found : goal.returns-in-EndsBefore-clause-found
returns-in-EndsBefore-clause-found c =
    rw (← c.loop-i.invariant.here)
    (ends_before c.args.ended c.loop-i.scan c.args.bytes.now c.loop-i.invariant.scan (omega arith)
    (rw (← c.loop-i.invariant.here) at c.in-EndsBefore.ensures))

pub returns-in-EndsBehind-clause-found : goal.returns-in-EndsBehind-clause-found
returns-in-EndsBehind-clause-found c =
    rw (← c.loop-i.invariant.here)
    (ends_behind c.args.ended c.loop-i.scan c.args.bytes.now c.loop-i.invariant.scan (omega arith)
    (rw (← c.loop-i.invariant.here) at c.in-EndsBehind.ensures))

pub loop-i-preserved : goal.loop-i-preserved
loop-i-preserved c =
    record {
      scan = rw c.to.ensures
          (IsScan-to c.loop-i.scan c.args.bytes.now c.in-To.place c.in-To.depth c.loop-i.invariant.scan (omega arith)
          (rw (← c.loop-i.invariant.here) at c.in-To.ensures));
      here = rw c.to.ensures (omega arith);
      goes_on = rw c.to.ensures (omega arith);
    }

pub returns-clause-found : goal.returns-clause-found
returns-clause-found c =
    rw c.found_at_end.ensures
    (scan_found c.args.ended c.loop-i.scan c.args.bytes.now c.loop-i.invariant.scan (omega arith))
