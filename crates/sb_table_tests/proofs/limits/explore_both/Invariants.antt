use Rattle.sb_graph.specs.Findings.{IsGraph}
use Rattle.sb_table_tests.proofs.limits.explore_both.Given as goal

abbrev pub invariant-loop-row : goal.invariant-loop-row
invariant-loop-row g l = IsGraph l.arena l.graph
