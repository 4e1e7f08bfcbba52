use Rattle.std.proofs.Common.{take}
use Rattle.sb_analyze.specs.Shown.{shown}
use Rattle.sb_analyze.specs.Explained.{IsWalked}
use Rattle.sb_analyze.proofs.analysis.Analysis.resolve_to_first_uip.Given as goal

abbrev pub invariant-loop-place : goal.invariant-loop-place
invariant-loop-place l =
    IsWalked l.clauses l.trail.literals l.initial.self.level (take l.place l.trail.literals) (shown l.self)
