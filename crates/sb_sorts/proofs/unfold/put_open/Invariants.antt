use Rattle.std.proofs.Common.{take}
use Rattle.sb_term.specs.Descending.{Puts}
use Rattle.sb_sorts.specs.Unfolding.{open_numbers}
use Rattle.sb_sorts.proofs.unfold.put_open.Given as goal

abbrev pub invariant-loop-id : goal.invariant-loop-id
invariant-loop-id l = Puts l.fn.left.keys (open_numbers l.table (take l.id-index l.ids)) l.left.keys
