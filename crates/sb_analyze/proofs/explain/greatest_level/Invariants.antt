use Rattle.std.proofs.Common.{◌≡◌, max, drop, map}
use Rattle.sb_analyze.specs.Explained.{greatest_at}
use Rattle.sb_analyze.proofs.explain.greatest_level.Given as goal

abbrev pub invariant-loop-id : goal.invariant-loop-id
invariant-loop-id l =
    max l.level (greatest_at l.clauses (map (λ id. id.0) (drop l.id-index l.ids)))
    ≡ greatest_at l.clauses (map (λ id. id.0) l.ids)
