use Rattle.std.proofs.Common.{◌≡◌, ◌||◌, true, take}
use Rattle.std.specs.List.{list_all}
use Rattle.sb_lit.specs.Clauses.{is_false_under}
use Rattle.sb_trail.specs.Assignments.{held}
use Rattle.sb_clauses.specs.Waiting.{is_the}
use Rattle.sb_clauses.proofs.place.best_place.Given as goal

abbrev pub invariant-loop-place : goal.invariant-loop-place
invariant-loop-place l =
    list_all (λ m. is_the l.avoided m || is_false_under (held l.trail.literals) m) (take l.place l.clause) ≡ true
