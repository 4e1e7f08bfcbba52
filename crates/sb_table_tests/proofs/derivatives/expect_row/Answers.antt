use Rattle.sb_table_tests.proofs.derivatives.expect_row.Goals as goal

pub targets_of-found-requires : goal.targets_of-found-requires
targets_of-found-requires g c = record {
  known = c.requires;
  faithful = rw c.new-deriver.ensures (λ n pieces e. cc);
}
