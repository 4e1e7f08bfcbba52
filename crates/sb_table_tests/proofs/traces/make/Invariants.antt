use Rattle.sb_graph.specs.Findings.{IsGraph}
use Rattle.sb_table_tests.proofs.traces.make.Given as goal

abbrev pub invariant-loop-wanted : goal.invariant-loop-wanted
invariant-loop-wanted g l = IsGraph l.arena l.graph
