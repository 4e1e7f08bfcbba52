use Rattle.std.proofs.Common.{◌∙◌}
use Rattle.sb_problem.specs.Patterns.{pattern_in}
use Rattle.sb_fragment.proofs.MeasureFacts.{regular_is}
use Rattle.sb_fragment.proofs.measures.Measures.is_regular.Goals as goal

pub returns-clause-ok : goal.returns-clause-ok
returns-clause-ok c =
    c.is_within.ensures
    ∙ regular_is (pattern_in c.args.table.now c.args.pattern) c.in_ok-measure.measure c.in_ok-measure.ensures.ok
