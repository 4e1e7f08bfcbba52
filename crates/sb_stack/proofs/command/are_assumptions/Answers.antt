use Rattle.std.proofs.Common.{arith}
use Rattle.sb_stack.proofs.Shapes.{fewer_behind}
use Rattle.sb_stack.proofs.command.are_assumptions.Goals as goal

pub loop-form-smaller : goal.loop-form-smaller
loop-form-smaller c = omega (arith, fewer_behind _ _ _ c.in-Some.ensures)
