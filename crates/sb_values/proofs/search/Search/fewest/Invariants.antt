use Rattle.sb_values.specs.Explored.{Explores}
use Rattle.sb_values.proofs.search.Search.fewest.Given as goal

abbrev pub invariant-loop-entry : goal.invariant-loop-entry
invariant-loop-entry l = Explores l.fn.arena l.arena l.fn.graph l.graph
