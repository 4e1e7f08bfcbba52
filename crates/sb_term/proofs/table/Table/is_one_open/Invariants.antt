use Rattle.std.proofs.Common.{◌≡◌, drop}
use Rattle.sb_term.proofs.Marks.{some_marked}
use Rattle.sb_term.proofs.table.Table.is_one_open.Given as goal

abbrev pub invariant-loop-id : goal.invariant-loop-id
invariant-loop-id l = some_marked l.self (drop l.id-index l.ids) ≡ some_marked l.self l.ids
