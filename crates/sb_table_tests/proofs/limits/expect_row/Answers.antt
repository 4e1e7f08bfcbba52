use Rattle.sb_table_tests.proofs.limits.expect_row.Goals as goal

pub find-found-requires : goal.find-found-requires
find-found-requires g c = record {
  known = c.requires;
  graph = c.new-graph.ensures.graph c.args.arena.now;
  faithful = rw c.new-deriver.ensures (λ n pieces e. cc);
}
