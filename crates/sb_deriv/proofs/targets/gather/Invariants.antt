use Rattle.std.proofs.Common.{drop}
use Rattle.sb_deriv.proofs.Gathered.{Gathered}
use Rattle.sb_deriv.proofs.targets.gather.Given as goal

abbrev pub invariant-loop-i : goal.invariant-loop-i
invariant-loop-i l = Gathered l.pieces (drop l.i l.pieces) l.seen.keys l.gathered.items
