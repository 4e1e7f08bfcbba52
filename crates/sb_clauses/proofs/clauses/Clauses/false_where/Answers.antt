use Rattle.sb_clauses.proofs.clauses.Clauses.false_where.Goals as goal

pub false_where-requires : goal.false_where-requires
false_where-requires c = rw (c.deref.ensures.value, c.deref-2.ensures.value) c.self.invariant.1
