use Rattle.std.proofs.Common.{◌≡◌, ◌||◌, ℕ, take}
use Rattle.std.specs.List.{count_by}
use Rattle.sb_regex.specs.Numbered.{AllNumbers}
use Rattle.sb_rulebook.specs.Kept.{AllKept, Asked}
use Rattle.sb_trace.specs.Putting.{IsCounted, SpendsWithin}
use Rattle.sb_trace.specs.Tracking.{Tracks, Traces, is_expanded_in}
use Rattle.sb_trace.specs.Reaching.{is_member, is_unexpanded}
use Rattle.sb_trace.specs.Closing.{HasSpent, GoesOn}
use Rattle.sb_trace.proofs.trace.Trace.expand_each.Given as goal

abbrev pub invariant-loop-regex : goal.invariant-loop-regex
invariant-loop-regex g l = record {
  goes : GoesOn l.fn.arena l.arena l.fn.graph l.graph l.fn.self l.self;
  known : AllNumbers l.arena l.regexes;
  expanded : (n : ℕ)
      → is_expanded_in l.self n ≡ (is_member (take l.regex-index l.regexes) n || is_expanded_in l.fn.self n);
  spends : HasSpent l.fn.budget l.budget (count_by (is_unexpanded l.fn.self) (take l.regex-index l.regexes));
  steps : SpendsWithin l.fn.budget l.budget;
  faults : g.L.Tape.faults l.tape ≡ g.L.Tape.faults l.fn.tape;
  puts : (asked : Asked) (before : AllKept) → Tracks l.fn.arena l.fn.graph.memo l.fn.self before
      → IsCounted asked before l.fn.budget
      → Traces asked before l.arena l.graph.memo l.self l.budget (g.L.Tape.told l.fn.tape) (g.L.Tape.told l.tape);
}
