use Rattle.sb_deriv.specs.Faithful.{IsFaithful, KeepsEntries}
use Rattle.sb_regex.specs.Numbered.{Extends}
use Rattle.sb_graph.specs.Edges.{AreGathered}
use Rattle.sb_graph.proofs.edges.gather.Given as goal

abbrev pub invariant-loop-start : goal.invariant-loop-start
invariant-loop-start l =
    record {
      extends : Extends l.fn.arena l.arena;
      faithful : IsFaithful l.arena l.deriver;
      kept : KeepsEntries l.fn.deriver l.deriver;
      gathered : AreGathered l.arena l.starts l.start-index l.edges.items;
    }
