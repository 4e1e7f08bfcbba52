use Rattle.std.proofs.Common.{◌-◌}
use Rattle.sb_deriv.specs.Choices.{joined}
use Rattle.sb_deriv.proofs.Merging.{Merging}
use Rattle.sb_deriv.proofs.choices.merge.Given as goal

abbrev pub invariant-loop-first : goal.invariant-loop-first
invariant-loop-first l = Merging (joined l.constants l.operation) l.left l.right l.choices l.i l.j l.first

abbrev pub decreases-loop-first : goal.decreases-loop-first
decreases-loop-first l = 0x30000 - l.first
