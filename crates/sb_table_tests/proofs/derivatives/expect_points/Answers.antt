use Rattle.sb_table_tests.proofs.derivatives.expect_points.Goals as goal

pub cut_points-found-requires : goal.cut_points-found-requires
cut_points-found-requires g c = record {
  known = c.requires;
  right = c.new-plain.ensures c.args.arena.now;
}
