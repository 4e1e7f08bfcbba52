use Rattle.sb_clauses.proofs.Dropped.{dropped_stored}
use Rattle.sb_clauses.proofs.Sparing.{dropped_spared}
use Rattle.sb_clauses.proofs.engine.Engine.leave_above.Goals as goal

pub invariant_of-self : goal.invariant_of-self
invariant_of-self c =
    rw c.leave_above.ensures (
      dropped_stored c.args.level _ _ _ _ _ _ _ _ _ c.self.invariant.0,
      dropped_spared c.args.level _ _ c.self.invariant.1,
    )
