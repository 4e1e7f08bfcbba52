use Rattle.sb_table_tests.proofs.rules.go_through.Goals as goal

pub follow-followed-requires : goal.follow-followed-requires
follow-followed-requires g c = c.new-kept.ensures.over _
