use Rattle.sb_table_tests.proofs.traces.guard.Goals as goal

pub count_within-requires-clause-graph : goal.count_within-requires-clause-graph
count_within-requires-clause-graph g c = c.requires c.regex-2.new.arena
