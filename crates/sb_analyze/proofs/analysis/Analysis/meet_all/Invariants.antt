use Rattle.std.proofs.Common.{◌≡◌, drop}
use Rattle.sb_analyze.specs.Shown.{shown}
use Rattle.sb_analyze.specs.Explaining.{with_literals}
use Rattle.sb_analyze.proofs.analysis.Analysis.meet_all.Given as goal

abbrev pub invariant-loop-literal : goal.invariant-loop-literal
invariant-loop-literal l =
    with_literals l.trail.literals (shown l.self) (drop l.literal-index l.literals)
    ≡ with_literals l.trail.literals (shown l.initial.self) l.literals
