use Rattle.sb_values.specs.Explored.{Explores}
use Rattle.sb_values.proofs.search.Search.begin.Given as goal

abbrev pub invariant-loop-constant : goal.invariant-loop-constant
invariant-loop-constant l = Explores l.fn.arena l.arena l.graph l.graph

abbrev pub invariant-loop-goal : goal.invariant-loop-goal
invariant-loop-goal l = Explores l.fn.arena l.arena l.graph l.graph
