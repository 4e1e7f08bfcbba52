use Rattle.sb_values.specs.Explored.{Explores}
use Rattle.sb_values.proofs.search.Search.settle_each.Given as goal

abbrev pub invariant-loop-goal : goal.invariant-loop-goal
invariant-loop-goal l = Explores l.fn.arena l.arena l.fn.graph l.graph
