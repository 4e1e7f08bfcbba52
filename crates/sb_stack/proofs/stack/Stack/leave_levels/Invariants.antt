use Rattle.std.proofs.Common.{◌≡◌}
use Rattle.sb_script.specs.State.{popped}
use Rattle.sb_stack.specs.Stacked.{state_of}
use Rattle.sb_stack.specs.Keeping.{Leaves}
use Rattle.sb_stack.proofs.stack.Stack.leave_levels.Given as goal

abbrev pub invariant-loop-place : goal.invariant-loop-place
invariant-loop-place l = (state_of l.self ≡ popped l._place (state_of l.fn.self)) × Leaves l.fn.self l.self
