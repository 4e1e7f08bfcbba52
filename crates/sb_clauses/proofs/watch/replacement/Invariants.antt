use Rattle.std.proofs.Common.{◌≡◌, true, take}
use Rattle.std.specs.List.{list_all}
use Rattle.sb_trail.specs.Assignments.{held}
use Rattle.sb_clauses.specs.Looking.{is_or_false}
use Rattle.sb_clauses.proofs.watch.replacement.Given as goal

abbrev pub invariant-loop-place : goal.invariant-loop-place
invariant-loop-place l = list_all (is_or_false (held l.trail.literals) l.partner) (take l.place l.literals) ≡ true
