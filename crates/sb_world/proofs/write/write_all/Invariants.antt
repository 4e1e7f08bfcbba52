-- what is out so far is the front of the bytes, and the count of faults stands
use Rattle.std.proofs.Common.{length}
use Rattle.sb_world.proofs.WriteLemmas.{Sofar}
use Rattle.sb_world.proofs.write.write_all.Given as goal

abbrev pub invariant-loop-rest : goal.invariant-loop-rest
invariant-loop-rest g l =
    Sofar l.port l.bytes l.rest (g.W.World.outside l.fn.world) (g.W.World.outside l.world) (g.W.World.faults l.fn.world)
    (g.W.World.faults l.world)

abbrev pub decreases-loop-rest : goal.decreases-loop-rest
decreases-loop-rest g l = length l.rest
