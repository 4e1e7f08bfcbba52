use Rattle.std.proofs.Common.{take, map}
use Rattle.sb_regex.specs.Numbered.{Extends}
use Rattle.sb_problem.specs.Known.{AreNormals}
use Rattle.sb_plain.specs.Memory.{IsRight}
use Rattle.sb_stack.specs.Stacked.{assertion_in}
use Rattle.sb_models.specs.Knowing.{AreTrueBy}
use Rattle.sb_models.proofs.trying.all_hold.Given as goal

abbrev pub invariant-loop-place : goal.invariant-loop-place
invariant-loop-place l = Extends l.fn.arena l.arena
    × AreNormals l.fn.stack.table l.arena l.normals
    × IsRight l.arena l.plain
    × AreTrueBy l.fn.words l.fn.truths (map (assertion_in l.fn.stack.table) (take l.place l.fn.stack.assertions))
