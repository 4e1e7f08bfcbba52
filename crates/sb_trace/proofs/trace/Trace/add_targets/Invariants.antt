use Rattle.std.proofs.Common.{◌≡◌, ◌||◌, ℕ, true, Bool, List, take}
use Rattle.std.specs.List.{list_all}
use Rattle.sb_deriv.specs.Pieces.{targets_of}
use Rattle.sb_graph.specs.Findings.{is_marked}
use Rattle.sb_trace.specs.Reaching.{is_member}
use Rattle.sb_trace.specs.Closing.{is_met, is_unburied, GrewTo}
use Rattle.sb_trace.proofs.trace.Trace.add_targets.Given as goal

abbrev pub invariant-loop-target : goal.invariant-loop-target
invariant-loop-target l = record {
  grew : GrewTo l.fn.members.keys l.members.keys;
  met : list_all (is_met l.skips l.self l.members.keys) (targets_of (take l.target-index l.pieces)) ≡ true;
  only : (n : ℕ) → is_member l.members.keys n ≡ true
      → (is_member l.fn.members.keys n || is_member (targets_of (take l.target-index l.pieces)) n) ≡ true;
  unburied : l.skips ≡ true → (marks : List Bool) → list_all (is_marked marks) (targets_of l.pieces) ≡ true
      → list_all (is_unburied marks l.self) l.fn.members.keys ≡ true
      → list_all (is_unburied marks l.self) l.members.keys ≡ true;
}
