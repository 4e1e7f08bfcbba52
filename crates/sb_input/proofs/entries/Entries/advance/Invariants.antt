-- so many bytes are read, and no entry is taken
use Rattle.std.proofs.Common.{◌≡◌}
use Rattle.sb_input.specs.KeepingEntries.{turns_left}
use Rattle.sb_input.proofs.EntryLemmas.{Sofar}
use Rattle.sb_input.proofs.entries.Entries.advance.Given as goal

abbrev pub invariant-loop-next : goal.invariant-loop-next
invariant-loop-next g l =
    record {
      faults : g.W.World.faults l.world ≡ g.W.World.faults l.fn.world;
      sofar : Sofar l.fn.self l.self (g.W.World.outside l.fn.world) (g.W.World.outside l.world);
    }

abbrev pub decreases-loop-next : goal.decreases-loop-next
decreases-loop-next g l = turns_left l.self
