-- the last line is still due behind the lines so far
use Rattle.std.proofs.Common.{◌≡◌, ◌+◌, ◌≤◌, false}
use Rattle.sb_input.specs.TakingLines.{most_to_come}
use Rattle.sb_check.specs.Standing.{IsStanding}
use Rattle.sb_check.specs.Through.{GoesLast}
use Rattle.sb_check.proofs.checker.Checker.last_line.Given as goal

abbrev pub invariant-loop : goal.invariant-loop
invariant-loop g l =
    record {
      goes : GoesLast false l.fn.self.judge l.self.judge l.fn.lines l.lines (g.W.World.outside l.fn.world)
          (g.W.World.outside l.world);
      standing : IsStanding l.self.judge;
      room : l.self.judge.next + most_to_come l.lines ≤ l.fn.self.judge.next + most_to_come l.fn.lines;
      faults : g.W.World.faults l.world ≡ g.W.World.faults l.fn.world;
    }

abbrev pub decreases-loop : goal.decreases-loop
decreases-loop g l = most_to_come l.lines
