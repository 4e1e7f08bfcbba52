use Rattle.std.proofs.Common.{◌≡◌, ℕ, ◌-◌, ◌<◌, ◌≤◌, length}
use Rattle.sb_graph.specs.Queue.{way_of}
use Rattle.sb_graph.proofs.queue.Queue.run_end.Given as goal

abbrev pub invariant-loop-end : goal.invariant-loop-end
invariant-loop-end l =
    record {
      later : l.place < l.end;
      within : l.end ≤ length l.self;
      same : (k : ℕ) → l.place ≤ k → k < l.end → way_of l.self k ≡ way_of l.self l.place;
    }

abbrev pub decreases-loop-end : goal.decreases-loop-end
decreases-loop-end l = length l.self - l.end
