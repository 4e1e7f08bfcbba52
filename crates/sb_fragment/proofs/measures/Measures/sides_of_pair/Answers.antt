use Rattle.std.proofs.Common.{true, false}
use Rattle.sb_fragment.proofs.MeasureFacts.{sides_by}
use Rattle.sb_fragment.proofs.measures.Measures.sides_of_pair.Goals as goal

pub returns-then-measure : goal.returns-then-measure
returns-then-measure c = record {
  ok = sides_by c.args.table.now c.args.one c.args.other c.in_ok-measure.measure true c.in_ok-measure.ensures.ok
      c.if-measure.true;
  right = c.in_ok-measure.ensures.right;
}

pub returns-else-measure : goal.returns-else-measure
returns-else-measure c = record {
  ok = sides_by c.args.table.now c.args.one c.args.other c.in_ok-measure.measure false c.in_ok-measure.ensures.ok
      c.if-measure.false;
  right = c.in_ok-measure.ensures.right;
}
