use Rattle.sb_atoms.proofs.Connected.{Implied}
use Rattle.sb_atoms.proofs.table.Atoms.implications.Given as goal

abbrev pub invariant-loop-left : goal.invariant-loop-left
invariant-loop-left l = Implied l.adds l.fn.self l.self l.literals l.left l.last

abbrev pub decreases-loop-left : goal.decreases-loop-left
decreases-loop-left l = l.left
