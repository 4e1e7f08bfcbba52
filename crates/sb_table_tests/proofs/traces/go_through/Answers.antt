use Rattle.sb_table_tests.proofs.traces.go_through.Goals as goal

pub make-made-requires : goal.make-made-requires
make-made-requires g c = c.new-graph.ensures.graph
