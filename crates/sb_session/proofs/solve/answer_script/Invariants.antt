-- so many bytes are read, all whole entries in them are answered, and nothing else was done
use Rattle.std.proofs.Common.{◌≡◌, ◌≤◌, ◌-◌, ℕ, false, List, length}
use Rattle.sb_session.proofs.Words.{Asked, Outside, Underway, asks_proof, is_proved, opened}
use Rattle.sb_session.proofs.solve.answer_script.Given as goal

abbrev pub invariant-loop-count : goal.invariant-loop-count
invariant-loop-count g l =
    record {
      within : l.count ≤ l.fn.limit;
      goes_on : l.feed.1 ≡ false;
      session_goes_on : l.session.ended ≡ false;
      faults : g.W.World.faults l.world ≡ g.W.World.faults l.fn.world;
      underway :
          (asked : Asked) (old : Outside) → asked.limit ≡ l.fn.limit
          → is_proved l.fn.session ≡ asks_proof asked → g.W.World.outside l.fn.world ≡ opened asked old
          → (bytes : List ℕ) × (length bytes ≡ l.count)
          × Underway asked old bytes l.feed l.session (g.W.World.outside l.world);
    }

abbrev pub decreases-loop-count : goal.decreases-loop-count
decreases-loop-count g l = l.fn.limit - l.count
