use Rattle.sb_table_tests.proofs.traces.make.Goals as goal

pub loop-wanted-init : goal.loop-wanted-init
loop-wanted-init g c = c.requires c.regex.new.arena
