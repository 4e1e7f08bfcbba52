-- so many entries are answered, and nothing else was done
use Rattle.sb_session.proofs.Words.{◌≡◌, ℕ, false, List, length, Outside, Sofar, is_proved}
use Rattle.sb_session.proofs.solve.answer_entries.Given as goal

abbrev pub invariant-loop-pause : goal.invariant-loop-pause
invariant-loop-pause g l =
    record {
      going : l.session.ended ≡ false;
      kind : is_proved l.session ≡ is_proved l.fn.session;
      finished : l.feed.1 ≡ l.fn.feed.1;
      faults : g.W.World.faults l.world ≡ g.W.World.faults l.fn.world;
      sofar :
          (opened : Outside) (bytes : List ℕ)
          → Sofar opened bytes l.fn.feed l.fn.session (g.W.World.outside l.fn.world)
          → Sofar opened bytes l.feed l.session (g.W.World.outside l.world);
    }

abbrev pub decreases-loop-pause : goal.decreases-loop-pause
decreases-loop-pause g l = length l.feed.0
