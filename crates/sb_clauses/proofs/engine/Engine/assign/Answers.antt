use Rattle.sb_clauses.proofs.Resting.{stored_pushed}
use Rattle.sb_clauses.proofs.engine.Engine.assign.Goals as goal

pub forget_from-requires : goal.forget_from-requires
forget_from-requires c = c.self.invariant.0.ready.ascending

pub invariant_of-self : goal.invariant_of-self
invariant_of-self c = (
  rw c.assign.ensures
      (stored_pushed _ _ _ _ _ _ _ _ _ _ _ c.forget_from.ensures.front
      (rw c.current_level.ensures at c.forget_from.ensures.below) c.self.invariant.0),
  c.self.invariant.1,
)
