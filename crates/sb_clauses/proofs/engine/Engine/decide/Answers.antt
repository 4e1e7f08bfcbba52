use Rattle.sb_clauses.proofs.Resting.{front_same, stored_pushed}
use Rattle.sb_clauses.proofs.engine.Engine.decide.Goals as goal

pub invariant_of-self : goal.invariant_of-self
invariant_of-self c = (
  rw c.decide.ensures
      (stored_pushed _ _ _ _ _ _ _ _ _ _ _ (front_same _) c.self.invariant.0.ready.below c.self.invariant.0),
  c.self.invariant.1,
)
