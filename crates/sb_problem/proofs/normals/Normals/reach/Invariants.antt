use Rattle.std.proofs.Common.{◌≡◌, true}
use Rattle.sb_regex.specs.Numbered.{Extends}
use Rattle.sb_problem.specs.Known.{AreNormals}
use Rattle.sb_problem.specs.Waiting.{AreWaiting, is_met, weights}
use Rattle.sb_problem.proofs.normals.Normals.reach.Given as goal

abbrev pub invariant-loop-next : goal.invariant-loop-next
invariant-loop-next l = record {
  normals : AreNormals l.fn.table l.arena l.self;
  extends : Extends l.fn.arena l.arena;
  waiting : AreWaiting l.fn.table l.self l.waiting.items;
  met : is_met l.self l.waiting.items l.fn.id ≡ true;
}

abbrev pub decreases-loop-next : goal.decreases-loop-next
decreases-loop-next l = weights l.fn.table l.waiting.items
