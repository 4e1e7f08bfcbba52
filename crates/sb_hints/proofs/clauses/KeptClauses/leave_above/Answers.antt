use Rattle.sb_hints.proofs.clauses.KeptClauses.leave_above.Goals as goal

pub invariant_of-self : goal.invariant_of-self
invariant_of-self c = c.drop_left.ensures.order c.self.inside.literals.items c.self.invariant
