use Rattle.std.proofs.Common.{take}
use Rattle.sb_term.specs.Descending.{Puts}
use Rattle.sb_term.proofs.worklist.put_all.Given as goal

abbrev pub invariant-loop-id : goal.invariant-loop-id
invariant-loop-id l = Puts l.fn.left.keys (take l.id-index l.ids) l.left.keys
