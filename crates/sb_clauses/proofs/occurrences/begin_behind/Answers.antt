use Rattle.sb_clauses.proofs.occurrences.begin_behind.Goals as goal

pub set-requires-clause-inside : goal.set-requires-clause-inside
set-requires-clause-inside c = rw c.len.ensures at c.if-list-len.false

pub get-requires : goal.get-requires
get-requires c = rw c.len.ensures at c.if-list-len.false
