use Rattle.std.proofs.Common.{◌≡◌, ◌-◌, ◌^◌, ◌<◌}
use Rattle.sb_deriv.specs.Faithful.{KeepsEntries}
use Rattle.sb_regex.specs.Numbered.{Extends}
use Rattle.sb_graph.specs.Findings.{IsGraph}
use Rattle.sb_graph.specs.Search.{HasCome}
use Rattle.sb_graph.proofs.graph.Graph.take_turns.Given as goal

abbrev pub invariant-loop-bound : goal.invariant-loop-bound
invariant-loop-bound l =
    record {
      some : 0 < l.bound;
      extends : Extends l.fn.arena l.arena;
      graph : IsGraph l.arena l.self;
      marks : l.self.dead ≡ l.fn.self.dead;
      derivatives_stay : KeepsEntries l.fn.self.memo l.self.memo;
      come : HasCome l.arena l.fn.root l.self.dead l.queue l.place l.fn.self.expanded l.self.expanded;
    }

abbrev pub decreases-loop-bound : goal.decreases-loop-bound
decreases-loop-bound l = 2 ^ 64 - l.bound
