use Rattle.sb_stack.specs.Stacked.{state_of}
use Rattle.sb_stack.proofs.Lefts.{popped_more, leaves_more}
use Rattle.sb_stack.proofs.stack.Stack.leave_levels.Goals as goal

pub loop-place-preserved : goal.loop-place-preserved
loop-place-preserved c = (
  popped_more c.loop-place._place (state_of c.args.self.now) (state_of c.loop-place.self)
      (state_of c.leave_level.new.self) c.loop-place.invariant.0 c.leave_level.ensures.state,
  leaves_more c.args.self.now c.loop-place.self c.leave_level.new.self c.loop-place.invariant.1
      c.leave_level.ensures.leaves,
)
