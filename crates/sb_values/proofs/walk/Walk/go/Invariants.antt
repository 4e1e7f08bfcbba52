use Rattle.sb_values.specs.Explored.{Explores}
use Rattle.sb_values.proofs.walk.Walk.go.Given as goal

abbrev pub invariant-loop-number : goal.invariant-loop-number
invariant-loop-number l = Explores l.fn.arena l.arena l.fn.graph l.graph
