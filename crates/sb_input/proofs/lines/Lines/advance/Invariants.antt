-- so many bytes are read, and none of the kept ones taken
use Rattle.std.proofs.Common.{◌≡◌}
use Rattle.sb_input.specs.KeepingLines.{turns_left}
use Rattle.sb_input.proofs.LineLemmas.{Sofar}
use Rattle.sb_input.proofs.lines.Lines.advance.Given as goal

abbrev pub invariant-loop-found : goal.invariant-loop-found
invariant-loop-found g l =
    record {
      faults : g.W.World.faults l.world ≡ g.W.World.faults l.fn.world;
      sofar : Sofar l.fn.self l.self (g.W.World.outside l.fn.world) (g.W.World.outside l.world);
    }

abbrev pub decreases-loop-found : goal.decreases-loop-found
decreases-loop-found g l = turns_left l.self
