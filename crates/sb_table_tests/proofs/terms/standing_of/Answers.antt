use Rattle.sb_fragment.proofs.CallerLemmas.{inside_none, no_measures}
use Rattle.sb_table_tests.proofs.terms.standing_of.Goals as goal

pub stand-standing-requires-clause-known : goal.stand-standing-requires-clause-known
stand-standing-requires-clause-known c = inside_none _ _ _ c.new-fragment.ensures

pub stand-standing-requires-clause-right : goal.stand-standing-requires-clause-right
stand-standing-requires-clause-right c = rw c.new-measures.ensures (no_measures _)
