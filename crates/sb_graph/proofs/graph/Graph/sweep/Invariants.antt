use Rattle.std.proofs.Common.{◌≡◌, ℕ, ◌-◌, ◌^◌, List}
use Rattle.sb_deriv.specs.Faithful.{KeepsEntries}
use Rattle.sb_regex.specs.Numbered.{Extends}
use Rattle.sb_graph.specs.Findings.{IsGraph}
use Rattle.sb_graph.specs.Search.{HasCome, IsUnderWay}
use Rattle.sb_graph.proofs.graph.Graph.sweep.Given as goal

abbrev pub invariant-loop-place : goal.invariant-loop-place
invariant-loop-place l =
    record {
      extends : Extends l.fn.arena l.arena;
      graph : IsGraph l.arena l.self;
      marks : l.self.dead ≡ l.fn.self.dead;
      derivatives_stay : KeepsEntries l.fn.self.memo l.self.memo;
      under_way : (before : List ℕ)
          → HasCome l.fn.arena l.fn.root l.fn.self.dead l.fn.queue l.fn.from before l.fn.self.expanded
          → IsUnderWay l.arena l.fn.root l.self.dead l.queue l.place l.tested before l.self.expanded;
    }

abbrev pub decreases-loop-place : goal.decreases-loop-place
decreases-loop-place l = 2 ^ 64 - l.place
