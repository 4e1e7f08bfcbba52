use Rattle.std.proofs.Common.{take}
use Rattle.sb_analyze.specs.Shown.{shown}
use Rattle.sb_analyze.specs.Explained.{IsTraced}
use Rattle.sb_analyze.proofs.analysis.Analysis.resolve_all.Given as goal

abbrev pub invariant-loop-place : goal.invariant-loop-place
invariant-loop-place l =
    IsTraced l.clauses l.trail.literals (shown l.initial.self) (take l.place l.trail.literals) (shown l.self)
