use Rattle.std.proofs.Common.{◌≡◌, max, drop}
use Rattle.sb_analyze.specs.Reasons.{highest}
use Rattle.sb_analyze.proofs.explain.highest_kept.Given as goal

abbrev pub invariant-loop-literal : goal.invariant-loop-literal
invariant-loop-literal l =
    max l.level (highest l.trail.literals (drop l.literal-index l.literals)) ≡ highest l.trail.literals l.literals
