use Rattle.std.proofs.Common.{take}
use Rattle.sb_atoms.proofs.Connected.{Compared}
use Rattle.sb_atoms.proofs.table.Atoms.equivalences.Given as goal

abbrev pub invariant-loop-one : goal.invariant-loop-one
invariant-loop-one l = Compared l.adds l.distinct l.fn.self l.self (take l.one-index l.pairs) l.literals.items
