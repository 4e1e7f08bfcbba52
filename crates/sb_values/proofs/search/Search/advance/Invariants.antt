use Rattle.sb_values.specs.Explored.{Explores}
use Rattle.sb_values.proofs.search.Search.advance.Given as goal

abbrev pub invariant-loop-turn : goal.invariant-loop-turn
invariant-loop-turn l = Explores l.fn.arena l.arena l.fn.graph l.graph
