use Rattle.sb_clauses.proofs.engine.Engine.propagate.Goals as goal

pub returns-clause-grows : goal.returns-clause-grows
returns-clause-grows c = rw (← c.self.view_is) c.settle_on-conflict.ensures.grows
