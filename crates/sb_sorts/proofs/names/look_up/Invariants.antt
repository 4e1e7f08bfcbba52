use Rattle.std.proofs.Common.{◌≡◌, drop}
use Rattle.sb_sorts.specs.NamedRows.{look_up}
use Rattle.sb_sorts.proofs.names.look_up.Given as goal

abbrev pub invariant-loop-other : goal.invariant-loop-other
invariant-loop-other g l = look_up l.table l.name ≡ look_up (drop l.other-index l.table) l.name
