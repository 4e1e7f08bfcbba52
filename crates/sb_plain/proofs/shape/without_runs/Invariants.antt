use Rattle.std.proofs.Common.{take}
use Rattle.sb_plain.proofs.Runs.{SameNumbers}
use Rattle.sb_plain.proofs.shape.without_runs.Given as goal

abbrev pub invariant-loop-id : goal.invariant-loop-id
invariant-loop-id l = SameNumbers l.some.items (take l.id-index l.ids)
