use Rattle.std.proofs.Common.{◌≡◌, ℕ}
use Rattle.sb_deriv.specs.Faithful.{Memo}
use Rattle.sb_graph.specs.Findings.{is_marked}
use Rattle.sb_rulebook.specs.Kept.{AllKept, Asked}
use Rattle.sb_trace.specs.Tracking.{Tracks, TracesUncounted, StaysNumbered}
use Rattle.sb_trace.specs.Defining.{AreClassesUpTo}
use Rattle.sb_trace.proofs.trace.Trace.add_classes.Given as goal

abbrev pub invariant-loop-place : goal.invariant-loop-place
invariant-loop-place g l = record {
  stays : StaysNumbered l.fn.self l.self;
  classes : AreClassesUpTo l.self.order l.pieces l.place l.classes.items;
  expanded_stay : (n : ℕ) → is_marked l.self.expanded n ≡ is_marked l.fn.self.expanded n;
  dead_stay : (n : ℕ) → is_marked l.self.dead n ≡ is_marked l.fn.self.dead n;
  faults : g.L.Tape.faults l.tape ≡ g.L.Tape.faults l.fn.tape;
  puts : (asked : Asked) (memo : Memo) (before : AllKept) → Tracks l.arena memo l.fn.self before
      → TracesUncounted asked before l.arena memo l.self (g.L.Tape.told l.fn.tape) (g.L.Tape.told l.tape);
}
