use Rattle.sb_clauses.proofs.AllDropped.{stored_none, spared_none}
use Rattle.sb_clauses.proofs.engine.Engine.leave_all.Goals as goal

pub invariant_of-self : goal.invariant_of-self
invariant_of-self c =
    rw c.leave_all.ensures (
      stored_none _ _ _ _ _ _ _ _ _ c.self.invariant.0,
      spared_none _ _ c.self.invariant.1,
    )
