use Rattle.std.proofs.Common.{◌≡◌, ◌-◌, ◌^◌, ◌≤◌, true, take}
use Rattle.std.specs.List.{list_all, count_by}
use Rattle.sb_lang.specs.Regex.{Regex}
use Rattle.sb_regex.specs.Numbered.{AllNumbers}
use Rattle.sb_trace.specs.Reaching.{is_unexpanded, AreReached}
use Rattle.sb_trace.specs.Closing.{is_unburied, AreLedUpTo, GrewTo, GoesOn}
use Rattle.sb_trace.proofs.trace.Trace.gather.Given as goal

abbrev pub decreases-loop-place : goal.decreases-loop-place
decreases-loop-place l = 2 ^ 64 - l.place

abbrev pub invariant-loop-place : goal.invariant-loop-place
invariant-loop-place l = record {
  goes : GoesOn l.fn.arena l.arena l.fn.graph l.graph l.self l.self;
  grew : GrewTo l.fn.members.keys l.members.keys;
  known : AllNumbers l.arena l.members.keys;
  led : AreLedUpTo l.graph.memo l.skips l.self l.members.keys l.place;
  few : l.lacking ≤ l.most;
  counted : l.lacking ≡ count_by (is_unexpanded l.self) (take l.place l.members.keys);
  reached : (r : Regex) → AreReached l.fn.arena r l.fn.members.keys → AreReached l.arena r l.members.keys;
  unburied : l.skips ≡ true → list_all (is_unburied l.fn.graph.dead l.self) l.fn.members.keys ≡ true
      → list_all (is_unburied l.graph.dead l.self) l.members.keys ≡ true;
}
