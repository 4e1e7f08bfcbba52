use Rattle.std.proofs.Common.{◌≡◌, ◌≤◌, length, take}
use Rattle.sb_trail.specs.Assignments.{up_to}
use Rattle.sb_clauses.proofs.marks.end_of.Given as goal

abbrev pub invariant-loop-count : goal.invariant-loop-count
invariant-loop-count l = record {
  within : l.count ≤ length l.entries;
  same : up_to l.level (take l.count l.entries) ≡ up_to l.level l.entries;
}

abbrev pub decreases-loop-count : goal.decreases-loop-count
decreases-loop-count l = l.count
