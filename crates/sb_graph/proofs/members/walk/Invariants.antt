use Rattle.std.proofs.Common.{◌-◌, ◌^◌}
use Rattle.sb_deriv.specs.Faithful.{IsFaithful, KeepsEntries}
use Rattle.sb_regex.specs.Numbered.{Extends}
use Rattle.sb_graph.specs.Walks.{first_language, IsUnderWay}
use Rattle.sb_graph.proofs.members.walk.Given as goal

abbrev pub invariant-loop-place : goal.invariant-loop-place
invariant-loop-place l =
    record {
      extends : Extends l.fn.arena l.arena;
      faithful : IsFaithful l.arena l.deriver;
      kept : KeepsEntries l.fn.deriver l.deriver;
      under_way : IsUnderWay l.arena (first_language l.fn.arena l.fn.queue) l.queue l.place l.tested;
    }

abbrev pub decreases-loop-place : goal.decreases-loop-place
decreases-loop-place l = 2 ^ 64 - l.place
