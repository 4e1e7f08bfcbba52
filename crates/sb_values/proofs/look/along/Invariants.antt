use Rattle.sb_values.specs.Explored.{Explores}
use Rattle.sb_values.proofs.look.along.Given as goal

abbrev pub invariant-loop-code : goal.invariant-loop-code
invariant-loop-code l = Explores l.fn.arena l.arena l.fn.graph l.graph
