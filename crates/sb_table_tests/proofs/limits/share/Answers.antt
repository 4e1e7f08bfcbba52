use Rattle.sb_table_tests.proofs.limits.share.Goals as goal

pub explore_both-requires : goal.explore_both-requires
explore_both-requires g c = c.requires c.regex-3.new.arena
