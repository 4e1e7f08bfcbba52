-- a further entry may come, and what is written is what it was
use Rattle.std.proofs.Common.{◌≡◌, ℕ, List}
use Rattle.sb_world.specs.Outside.{Outside}
use Rattle.sb_input.specs.TakingEntries.{most_to_come}
use Rattle.sb_check.specs.Standing.{IsStanding}
use Rattle.sb_check.specs.Sofar.{GoesOn}
use Rattle.sb_check.proofs.check.check_script.Given as goal

abbrev pub invariant-loop : goal.invariant-loop
invariant-loop g l =
    record {
      standing : IsStanding l.run.checker.judge;
      faults : g.W.World.faults l.world ≡ g.W.World.faults l.fn.world;
      goes_on :
          (limit : ℕ) (script proof : List ℕ) (old : Outside)
          → GoesOn limit script proof l.fn.run old (g.W.World.outside l.fn.world)
          → GoesOn limit script proof l.run old (g.W.World.outside l.world);
    }

abbrev pub decreases-loop : goal.decreases-loop
decreases-loop g l = most_to_come l.run.entries
