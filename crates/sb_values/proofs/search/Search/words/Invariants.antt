use Rattle.sb_values.specs.Explored.{Explores}
use Rattle.sb_values.proofs.search.Search.words.Given as goal

abbrev pub invariant-loop-constant : goal.invariant-loop-constant
invariant-loop-constant l = Explores l.fn.arena l.arena l.fn.graph l.graph
