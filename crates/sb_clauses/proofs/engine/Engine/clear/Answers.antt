use Rattle.sb_clauses.proofs.Resting.{stored_cleared}
use Rattle.sb_clauses.proofs.engine.Engine.clear.Goals as goal

pub invariant_of-self : goal.invariant_of-self
invariant_of-self c = (
  rw (c.clear.ensures, c.clear-2.ensures.items) (stored_cleared _ _ _ _ _ _ _ _ _ c.self.invariant.0),
  c.self.invariant.1,
)
