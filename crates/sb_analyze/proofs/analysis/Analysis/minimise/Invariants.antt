use Rattle.std.proofs.Common.{ℕ}
use Rattle.std.specs.HashSet.{contains}
use Rattle.sb_lit.specs.declared.clause.Lit.{Lit}
use Rattle.sb_analyze.specs.Assumed.{are_equal}
use Rattle.sb_analyze.specs.Shown.{shown}
use Rattle.sb_analyze.specs.Explained.{IsFirstUip}
use Rattle.sb_analyze.specs.Minimising.{IsMinimising}
use Rattle.sb_analyze.proofs.analysis.Analysis.minimise.Given as goal

abbrev pub invariant-loop-literal : goal.invariant-loop-literal
invariant-loop-literal l =
    (level : ℕ) (left : Lit) → IsFirstUip l.clauses l.trail.literals level (shown l.fn.self) left
    → IsMinimising l.clauses l.trail.literals level left (shown l.self) (contains are_equal l.standing)
