use Rattle.std.proofs.Common.{◌≡◌, ℕ, true}
use Rattle.sb_deriv.specs.Faithful.{Memo}
use Rattle.sb_graph.specs.Findings.{is_marked}
use Rattle.sb_rulebook.specs.Kept.{AllKept, Asked}
use Rattle.sb_trace.specs.Tracking.{Tracks, TracesRegexes, AddsLacking, StaysNumbered}
use Rattle.sb_trace.specs.Waiting.{stack_of, stack_weight, numbers_in, is_in, IsStack, AreLacking}
use Rattle.sb_trace.proofs.trace.Trace.number.Given as goal

abbrev pub invariant-loop-frame : goal.invariant-loop-frame
invariant-loop-frame g l = record {
  stack : IsStack l.arena l.self.order (stack_of l.stack.items);
  keeps : is_in l.self.order (numbers_in (stack_of l.stack.items)) l.regex ≡ true;
  puts : (asked : Asked) (memo : Memo) (before : AllKept) → Tracks l.arena memo l.fn.self before
      → TracesRegexes asked before l.arena memo l.self (g.L.Tape.told l.fn.tape) (g.L.Tape.told l.tape);
  lacking : AreLacking l.arena l.fn.self.order l.regex (stack_of l.stack.items);
  only : AddsLacking l.arena l.fn.self.order l.regex l.fn.self.order l.self.order;
  stays : StaysNumbered l.fn.self l.self;
  expanded : (n : ℕ) → is_marked l.self.expanded n ≡ is_marked l.fn.self.expanded n;
  dead : (n : ℕ) → is_marked l.self.dead n ≡ is_marked l.fn.self.dead n;
  counts : g.L.Tape.faults l.tape ≡ g.L.Tape.faults l.fn.tape;
}

abbrev pub decreases-loop-frame : goal.decreases-loop-frame
decreases-loop-frame g l = stack_weight l.arena (stack_of l.stack.items)
