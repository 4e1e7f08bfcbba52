use Rattle.sb_fragment.proofs.CallerLemmas.{no_measures}
use Rattle.sb_table_tests.proofs.terms.expect_measure.Goals as goal

pub measure-measure-requires-clause-right : goal.measure-measure-requires-clause-right
measure-measure-requires-clause-right g c = rw c.new-measures.ensures (no_measures _)
