-- the check still waits behind the lines so far
use Rattle.std.proofs.Common.{◌≡◌, ◌+◌, ◌≤◌, None}
use Rattle.sb_input.specs.TakingLines.{most_to_come}
use Rattle.sb_check.specs.Standing.{IsStanding}
use Rattle.sb_check.specs.Through.{GoesThrough}
use Rattle.sb_check.proofs.checker.Checker.verdict.Given as goal

abbrev pub invariant-loop-said : goal.invariant-loop-said
invariant-loop-said g l =
    record {
      goes : GoesThrough None l.fn.self.judge l.self.judge l.fn.lines l.lines (g.W.World.outside l.fn.world)
          (g.W.World.outside l.world);
      stack : l.self.judge.stack ≡ l.fn.self.judge.stack;
      standing : IsStanding l.self.judge;
      room : l.self.judge.next + most_to_come l.lines ≤ l.fn.self.judge.next + most_to_come l.fn.lines;
      faults : g.W.World.faults l.world ≡ g.W.World.faults l.fn.world;
    }

abbrev pub decreases-loop-said : goal.decreases-loop-said
decreases-loop-said g l = most_to_come l.lines
