use Rattle.std.proofs.Common.{◌≡◌, max, drop}
use Rattle.sb_lit.specs.Hints.{greatest_level}
use Rattle.sb_hints.specs.Following.{clauses_at}
use Rattle.sb_hints.proofs.judge.greatest_level.Given as goal

abbrev pub invariant-loop-id : goal.invariant-loop-id
invariant-loop-id l =
    max l.greatest (greatest_level (clauses_at l.kept (drop l.id-index l.ids)))
    ≡ greatest_level (clauses_at l.kept l.ids)
