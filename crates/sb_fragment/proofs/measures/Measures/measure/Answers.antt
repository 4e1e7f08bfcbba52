use Rattle.sb_fragment.proofs.MeasureFacts.{measure_found}
use Rattle.sb_fragment.proofs.measures.Measures.measure.Goals as goal

pub returns-clause-ok : goal.returns-clause-ok
returns-clause-ok c =
    measure_found c.args.table.now c.extend.new.measures.items c.args.id c.number.result c.index.result.now
    c.in_ok-extend.ensures.right c.number.ensures c.in_ok-extend.ensures.reached c.index.ensures
